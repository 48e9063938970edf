-- The tables of the next morning stand for the dossier of the cut.
use Rattle.std.proofs.Common.{ℕ, ◌+◌, ◌-◌, ◌≡◌, false, List, [], ◌∷◌, filter, find, length, map, nat_eq, nat_lt}
use Rattle.std.proofs.Common.{option_map, Option, unwrap_or, zip, inl, inr, refl, ◌∙◌, ap, arith}
use Rattle.std.specs.List.{AllByRecursion, IsDistinct, enumerate_from}
use Rattle.std.proofs.lemmas.Bool.{cases_Bool}
use Rattle.std.proofs.lemmas.Map.Keys.{IsDistinct-head, IsDistinct-tail}
use Rattle.admit_core.specs.declared.dossier.Answer.{Answer}
use Rattle.admit_core.specs.declared.dossier.AnswerKind.{AnswerKind}
use Rattle.admit_core.specs.declared.dossier.AnswerKind.TheVariants.{Accept, Refuse, Withdraw, Quit}
use Rattle.admit_core.specs.declared.dossier.CeilingChange.{CeilingChange}
use Rattle.admit_core.specs.declared.dossier.School.{School}
use Rattle.admit_core.specs.declared.dossier.Wish.{Wish}
use Rattle.admit_core.specs.declared.state.Mark.{Mark}
use Rattle.admit_core.specs.declared.state.Status.{Status}
use Rattle.admit_core.specs.declared.state.Status.TheVariants.{Waiting}
use Rattle.admit_core.specs.declared.tables.AnswerRow.{AnswerRow}
use Rattle.admit_core.specs.declared.tables.CeilingRow.{CeilingRow}
use Rattle.admit_core.specs.declared.tables.SchoolRow.{SchoolRow}
use Rattle.admit_core.specs.declared.tables.StateRow.{StateRow}
use Rattle.admit_core.specs.declared.tables.Tables.{Tables}
use Rattle.admit_core.specs.declared.tables.WishRow.{WishRow}
use Rattle.admit_core.specs.Days.{ceiling_on}
use Rattle.admit_core.specs.DossierRows.{DossierRows}
use Rattle.admit_core.specs.Relations.{school_ids, wish_ids}
use Rattle.admit_core.specs.Standing.{answer_of_row, dossier_of, place_of, school_of_row, target_of, wish_of_row}
use Rattle.admit_core.specs.State.{State}
use Rattle.admit_core.proofs.Plain.{map_same, nat_eq_sym}
use Rattle.dossier_check.proofs.Places.{nat_eq_self}
use Rattle.cut_laws.specs.Cut.{cut_at}
use Rattle.next_morning.specs.Morning.{later_answers, later_ceilings, state_row, tables_after, with_ceiling}

-- ---- schools
module _ (f : ℕ → School → ℕ) where
  schools_as_cut : (n : ℕ) (rows : List SchoolRow)
      → map school_of_row (map with_ceiling
      (zip rows (map (λ (x : ℕ × School). f x.0 x.1) (enumerate_from n (map school_of_row rows)))))
      ≡ map (λ (x : ℕ × School). record x.1 { ceiling = f x.0 x.1 }) (enumerate_from n (map school_of_row rows))
  schools_as_cut n [] = refl
  schools_as_cut n (row ∷ rows) =
      ap (λ (l : List School). record (school_of_row row) { ceiling = f n (school_of_row row) } ∷ l)
      (schools_as_cut (n + 1) rows)

  ids_as_before : (n : ℕ) (rows : List SchoolRow)
      → map (λ (h : SchoolRow). h.id) (map with_ceiling
      (zip rows (map (λ (x : ℕ × School). f x.0 x.1) (enumerate_from n (map school_of_row rows)))))
      ≡ map (λ (h : SchoolRow). h.id) rows
  ids_as_before n [] = refl
  ids_as_before n (row ∷ rows) = ap (λ (l : List ℕ). row.id ∷ l) (ids_as_before (n + 1) rows)

-- ---- statuses
abbrev pub found : List StateRow → WishRow → Option StateRow
found rows w = find (λ (s : StateRow). nat_eq w.id s.wish) rows

abbrev pub status_in : Option StateRow → Status
status_in row = unwrap_or (option_map (λ (s : StateRow). s.status) row) Waiting

abbrev told : List StateRow → WishRow → Status
told rows w = status_in (found rows w)

-- a row of another wish decides nothing
pub told_later : {X : Type 0} (of_row : Option StateRow → X) (row : StateRow) (rows : List StateRow) (ws : List WishRow)
    → AllByRecursion (λ id. nat_eq row.wish id ≡ false) (map (λ (w : WishRow). w.id) ws)
    → map (λ w. of_row (found (row ∷ rows) w)) ws ≡ map (λ w. of_row (found rows w)) ws
told_later of_row row rows [] others = refl
told_later {X} of_row row rows (w ∷ ws) others =
    let other : nat_eq w.id row.wish ≡ false = nat_eq_sym w.id row.wish ∙ others.0 in
    rw other (ap (λ (l : List X). of_row (found rows w) ∷ l) (told_later of_row row rows ws others.1))

pub told_statuses : (ws : List WishRow) (ms : List Mark) → length ms ≡ length ws
    → IsDistinct nat_eq (map (λ (w : WishRow). w.id) ws)
    → map (told (map state_row (zip ws ms))) ws ≡ map (λ (m : Mark). m.status) ms
told_statuses [] [] same apart = refl
told_statuses [] (m ∷ ms) same apart = absurd (omega arith)
told_statuses (w ∷ ws) [] same apart = absurd (omega arith)
told_statuses (w ∷ ws) (m ∷ ms) same apart =
    rw (nat_eq_self w.id)
    (ap (λ (l : List Status). m.status ∷ l)
    (told_later status_in (state_row (w, m)) (map state_row (zip ws ms)) ws
    (IsDistinct-head nat_eq w.id (map (λ (v : WishRow). v.id) ws) apart)
    ∙ told_statuses ws ms (omega (arith, same)) (IsDistinct-tail nat_eq w.id (map (λ (v : WishRow). v.id) ws) apart)))

-- ---- what is given for later days
abbrev placed : (ℕ → ℕ) → CeilingRow → CeilingChange
placed place c = record { day = c.day; school = place c.school; ceiling = c.ceiling }

abbrev aimed : AnswerRow → ℕ → Answer
aimed x target = record { day = x.day; kind = x.kind; target = target }

module _ (a : ℕ) where
  ceilings_as_cut : (place : ℕ → ℕ) (rows : List CeilingRow)
      → map (placed place) (later_ceilings a rows)
      ≡ map (λ (c : CeilingChange). record c { day = c.day - a })
      (filter (λ (c : CeilingChange). nat_lt a c.day) (map (placed place) rows))
  ceilings_as_cut place [] = refl
  ceilings_as_cut place (row ∷ rows) =
      elim (cases_Bool (nat_lt a row.day)) [
        | inl later ↦ rw later (ap (λ (l : List CeilingChange). placed place (record row { day = row.day - a }) ∷ l)
            (ceilings_as_cut place rows))
        | inr gone ↦ rw gone (ceilings_as_cut place rows)
      ]

  answers_as_cut : (t : Tables) (rows : List AnswerRow)
      → map (answer_of_row t) (later_answers a rows)
      ≡ map (λ (x : Answer). record x { day = x.day - a })
      (filter (λ (x : Answer). nat_lt a x.day) (map (answer_of_row t) rows))
  answers_as_cut t [] = refl
  answers_as_cut t (row ∷ rows) =
      elim (cases_Bool (nat_lt a row.day)) [
        | inl later ↦ rw later (ap (λ (l : List Answer). answer_of_row t (record row { day = row.day - a }) ∷ l)
            (answers_as_cut t rows))
        | inr gone ↦ rw gone (answers_as_cut t rows)
      ]

-- ---- the whole
dossiers_alike : (d : DossierRows) {hs ks : List School} {ws vs : List Wish} {ss rs : List Status}
    {cs bs : List CeilingChange} {xs ys : List Answer} → hs ≡ ks → ws ≡ vs → ss ≡ rs → cs ≡ bs → xs ≡ ys
    → record d { schools = hs; wishes = ws; statuses = ss; ceilings = cs; answers = xs }
    ≡ record d { schools = ks; wishes = vs; statuses = rs; ceilings = bs; answers = ys }
dossiers_alike d schools wishes statuses ceilings answers =
    rw (schools, wishes, statuses, ceilings, answers) refl

module _ (a : ℕ) (t : Tables) (marks : List Mark) where
  abbrev d : DossierRows
  d = dossier_of t

  abbrev evening : State
  evening = record { dossier = d; marks = marks }

  abbrev next : Tables
  next = tables_after a t evening

  pub same_school_ids : school_ids next ≡ school_ids t
  same_school_ids = ids_as_before (λ h school. ceiling_on d a h school) 0 t.schools

  same_target : (kind : AnswerKind) (target : ℕ) → target_of next kind target ≡ target_of t kind target
  same_target Accept target = refl
  same_target Refuse target = refl
  same_target Withdraw target = refl
  same_target Quit target = refl

  pub same_dossier : length marks ≡ length t.wishes → IsDistinct nat_eq (wish_ids t)
      → dossier_of next ≡ cut_at a evening
  same_dossier long apart =
      let wishes : map (wish_of_row next) t.wishes ≡ map (wish_of_row t) t.wishes =
      ap (λ (ids : List ℕ).
      map (λ (w : WishRow). record (wish_of_row t w) { school = option_map (place_of ids) w.school })
      t.wishes) same_school_ids in
      let ceilings = ap (λ (ids : List ℕ). map (placed (place_of ids)) (later_ceilings a t.ceilings)) same_school_ids
      ∙ ceilings_as_cut a (place_of (school_ids t)) t.ceilings in
      let answers = map_same (answer_of_row next) (answer_of_row t)
      (λ x. ap (aimed x) (same_target x.kind x.target))
      (later_answers a t.answers) ∙ answers_as_cut a t t.answers in
      dossiers_alike d (schools_as_cut (λ h school. ceiling_on d a h school) 0 t.schools) wishes
      (told_statuses t.wishes marks long apart) ceilings answers

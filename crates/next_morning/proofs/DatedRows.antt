-- The tables with dates stand for the same dossier, and their dates are those of the final lines.
use Rattle.std.proofs.Common.{ℕ, ◌+◌, ◌<◌, ◌≡◌, true, false, List, [], ◌∷◌, length, map, nat_eq, Option, Some, None}
use Rattle.std.proofs.Common.{refl, sym, ◌∙◌, ap, subst, arith}
use Rattle.std.specs.List.{AllByRecursion, IsDistinct, enumerate_from, range_with_len}
use Rattle.std.specs.Option.{option_and_then}
use Rattle.std.proofs.lemmas.List.{ext_get_or, get_or-map, length-map}
use Rattle.std.proofs.lemmas.List.FromFn.{get_or-map-range_with_len, length-map-range_with_len}
use Rattle.std.proofs.lemmas.Map.Keys.{IsDistinct-head, IsDistinct-tail}
use Rattle.std.proofs.lemmas.Option.{unwrap_or-slice_get}
use Rattle.admit_core.specs.Answers.{status_at}
use Rattle.admit_core.specs.declared.dossier.Wish.{Wish}
use Rattle.admit_core.specs.declared.state.Mark.{Mark}
use Rattle.admit_core.specs.declared.state.Status.{Status}
use Rattle.admit_core.specs.declared.state.Status.TheVariants.{Waiting}
use Rattle.admit_core.specs.declared.tables.Since.{Since}
use Rattle.admit_core.specs.declared.tables.StateRow.{StateRow}
use Rattle.admit_core.specs.declared.tables.Tables.{Tables}
use Rattle.admit_core.specs.declared.tables.WishRow.{WishRow}
use Rattle.admit_core.specs.DossierRows.{DossierRows}
use Rattle.admit_core.specs.Relations.{wish_ids}
use Rattle.admit_core.specs.Standing.{dossier_of, wish_of_row}
use Rattle.admit_core.specs.State.{State}
use Rattle.dossier_check.proofs.Places.{nat_eq_self}
use Rattle.dossier_check.specs.Dates.{dates_of}
use Rattle.cut_laws.proofs.Dated.{no_mark}
use Rattle.intake.specs.declared.terms.DatedTerms.{DatedTerms}
use Rattle.text_laws.specs.ReadBack.{dated_rows, since_when}
use Rattle.next_morning.specs.DatedLaws.{DatedTablesAreOfTheCut, DatesAreOfTheEvening}
use Rattle.next_morning.specs.Laws.{IsEveningOf}
use Rattle.next_morning.specs.Morning.{morning_tables, tables_after}
use Rattle.next_morning.proofs.Mornings.{tables_are_of_the_cut}
use Rattle.next_morning.proofs.SameDossier.{found, status_in, told_later, told_statuses}

abbrev since_in : Option StateRow → Option Since
since_in row = option_and_then (λ (s : StateRow). s.since) row

-- what rows that are made by place tell of each wish
module _ {X : Type 0} (t : Tables) (of_row : Option StateRow → X) (of_place : ℕ → X) (made : ℕ × Wish → StateRow)
    (names : (x : ℕ × Wish) → (made x).wish ≡ x.1.id)
    (tells : (x : ℕ × Wish) → of_row (Some (made x)) ≡ of_place x.0) where
  abbrev rows : ℕ → List WishRow → List StateRow
  rows n ws = map made (enumerate_from n (map (wish_of_row t) ws))

  told_by_place : (n : ℕ) (ws : List WishRow) → IsDistinct nat_eq (map (λ (w : WishRow). w.id) ws)
      → map (λ w. of_row (found (rows n ws) w)) ws ≡ map of_place (range_with_len n (length ws))
  told_by_place n [] apart = refl
  told_by_place n (w ∷ ws) apart =
      let here : nat_eq w.id (made (n, wish_of_row t w)).wish ≡ true =
      ap (nat_eq w.id) (names (n, wish_of_row t w)) ∙ nat_eq_self w.id in
      let ids = map (λ (v : WishRow). v.id) ws in
      let others = subst (λ id. AllByRecursion (λ other. nat_eq id other ≡ false) ids)
      (sym (names (n, wish_of_row t w))) (IsDistinct-head nat_eq w.id ids apart) in
      let rest = told_later of_row (made (n, wish_of_row t w)) (rows (n + 1) ws) ws others
      ∙ told_by_place (n + 1) ws (IsDistinct-tail nat_eq w.id ids apart) in
      rw here (λ i. tells (n, wish_of_row t w) i ∷ rest i)

-- the statuses of the marks, by place
statuses_by_place : (s : State) (n : ℕ) → length s.marks ≡ n
    → map (status_at s) (range_with_len 0 n) ≡ map (λ (m : Mark). m.status) s.marks
statuses_by_place s n long =
    let many = length-map-range_with_len (status_at s) 0 n in
    ext_get_or Waiting (map (status_at s) (range_with_len 0 n)) (map (λ (m : Mark). m.status) s.marks)
    (many ∙ sym long ∙ sym (length-map s.marks (λ (m : Mark). m.status)))
    (λ i lt.
    let there : i < length s.marks = omega (arith, lt, many, long) in
    get_or-map-range_with_len (status_at s) 0 n i i Waiting (omega (arith, there, long)) (omega arith)
    ∙ ap (λ (m : Mark). m.status) (unwrap_or-slice_get s.marks i no_mark)
    ∙ sym (get_or-map (λ (m : Mark). m.status) s.marks i no_mark Waiting there))

module _ (a : ℕ) (t : Tables) (marks : List Mark) (dated : DatedTerms) (long : length marks ≡ length t.wishes)
    (apart : IsDistinct nat_eq (wish_ids t)) where
  abbrev s : State
  s = record { dossier = dossier_of t; marks = marks }

  abbrev since : ℕ → Option Since
  since = since_when s dated.start dated.terms.before

  abbrev row : ℕ × Wish → StateRow
  row x = record { wish = x.1.id; status = status_at s x.0; since = since x.0 }

  pub dated_statuses : map (λ w. status_in (found (dated_rows s dated.start dated.terms.before) w)) t.wishes
      ≡ map (λ (m : Mark). m.status) marks
  dated_statuses =
      told_by_place t status_in (status_at s) row (λ x. refl) (λ x. refl) 0 t.wishes apart
      ∙ statuses_by_place s (length t.wishes) long

  same_dossier_dated : dossier_of (morning_tables a t s (Some dated)) ≡ dossier_of (tables_after a t s)
  same_dossier_dated =
      ap (λ (statuses : List Status). record (dossier_of (tables_after a t s)) { statuses = statuses })
      (dated_statuses ∙ sym (told_statuses t.wishes marks long apart))

  dates_are : dates_of (morning_tables a t s (Some dated)) ≡ map since (range_with_len 0 (length (dossier_of t).wishes))
  dates_are =
      told_by_place t since_in since row (λ x. refl) (λ x. refl) 0 t.wishes apart
      ∙ ap (λ n. map since (range_with_len 0 n)) (sym (length-map t.wishes (wish_of_row t)))

pub marks_long : (t : Tables) (evening : State) → IsEveningOf t evening → length evening.marks ≡ length t.wishes
marks_long t evening of =
    of.marks ∙ ap (λ (d : DossierRows). length d.wishes) of.dossier ∙ length-map t.wishes (wish_of_row t)

pub dated_tables_are_of_the_cut : DatedTablesAreOfTheCut
dated_tables_are_of_the_cut a t evening None of = tables_are_of_the_cut a t evening of
dated_tables_are_of_the_cut a t evening (Some dated) of =
    subst (λ (d : DossierRows).
    dossier_of (morning_tables a t (record { dossier = d; marks = evening.marks }) (Some dated))
    ≡ dossier_of (tables_after a t (record { dossier = d; marks = evening.marks })))
    (sym of.dossier) (same_dossier_dated a t evening.marks dated (marks_long t evening of) of.ids)
    ∙ tables_are_of_the_cut a t evening of

pub dates_are_of_the_evening : DatesAreOfTheEvening
dates_are_of_the_evening a t evening dated of =
    subst (λ (d : DossierRows).
    dates_of (morning_tables a t (record { dossier = d; marks = evening.marks }) (Some dated))
    ≡ map (since_when (record { dossier = d; marks = evening.marks }) dated.start dated.terms.before)
    (range_with_len 0 (length d.wishes)))
    (sym of.dossier) (dates_are a t evening.marks dated (marks_long t evening of) of.ids)

-- The tables of the next morning have no fault.
use Rattle.std.proofs.Common.{ℕ, ◌+◌, ◌-◌, ◌<◌, ◌≤◌, ◌≡◌, Bool, true, false, ◌&&◌, List, [], ◌∷◌, All, AllPairs, filter}
use Rattle.std.proofs.Common.{find, get_or, length, map, nat_eq, nat_lt, option_map, Some, None, take, zip, inl, inr}
use Rattle.std.proofs.Common.{refl, sym, ◌∙◌, ap, subst, arith}
use Rattle.std.specs.Prelude.{slice_get}
use Rattle.std.specs.List.{AllByRecursion, IsDistinct}
use Rattle.std.specs.List.Sorted.{IsNonDecreasing}
use Rattle.std.specs.Option.{option_map_or}
use Rattle.std.proofs.lemmas.Bool.{and_parts, cases_Bool, cases_eq}
use Rattle.std.proofs.lemmas.Bool.Decides.{nat_tests}
use Rattle.std.proofs.lemmas.List.{get_or-map, length-map, take_more}
use Rattle.std.proofs.lemmas.List.Elements.{All-from_recursion, recursion_from_All}
use Rattle.std.proofs.lemmas.List.Folds.{find_at, list_any_at}
use Rattle.std.proofs.lemmas.List.Sums.{position_or_len_is}
use Rattle.std.proofs.lemmas.Map.Keys.{apart_from_distinct}
use Rattle.std.proofs.lemmas.Option.{slice_get-get_or}
use Rattle.std.proofs.lemmas.Simd.{map-map}
use Rattle.std.proofs.lemmas.Slice.Zip.{get_or-zip, length-zip}
use Rattle.admit_core.proofs.NoFaults.{Passes, PassesAll, all_known, and_then, differ, differ_when, no_tests, none_in}
use Rattle.admit_core.proofs.Plain.{nat_eq_sym, none_or_none}
use Rattle.admit_core.specs.declared.dossier.AnswerKind.{AnswerKind}
use Rattle.admit_core.specs.declared.dossier.AnswerKind.TheVariants.{Accept, Refuse, Withdraw, Quit}
use Rattle.admit_core.specs.declared.dossier.Answer.{Answer}
use Rattle.admit_core.specs.declared.dossier.CeilingChange.{CeilingChange}
use Rattle.admit_core.specs.declared.dossier.Wish.{Wish}
use Rattle.admit_core.specs.declared.refusal.Reason.TheVariants.{Repeat, TwoAccepted, Unknown}
use Rattle.admit_core.specs.declared.slot.Slot.TheVariants as slots
use Rattle.admit_core.specs.declared.state.Mark.{Mark}
use Rattle.admit_core.specs.declared.tables.AnswerRow.{AnswerRow}
use Rattle.admit_core.specs.declared.tables.BoardRow.{BoardRow}
use Rattle.admit_core.specs.declared.tables.CeilingRow.{CeilingRow}
use Rattle.admit_core.specs.declared.tables.SchoolRow.{SchoolRow}
use Rattle.admit_core.specs.declared.tables.StateRow.{StateRow}
use Rattle.admit_core.specs.declared.tables.Tables.{Tables}
use Rattle.admit_core.specs.declared.tables.WishRow.{WishRow}
use Rattle.admit_core.specs.Faults.{Test, names_unknown, repeats, takes_rank}
use Rattle.admit_core.specs.Lists.{is_among}
use Rattle.admit_core.specs.OwnWishes.{AcceptsOne, IsOneAccepted}
use Rattle.admit_core.specs.Relations.{answer_tests, boarding_tests, candidate_with, ceiling_tests, day_falls}
use Rattle.admit_core.specs.Relations.{first_fault, group_tests, is_accepted, is_target, last_row, programme_tests}
use Rattle.admit_core.specs.Relations.{ranking_tests, same_candidate, school_ids, school_tests, state_tests, wish_ids}
use Rattle.admit_core.specs.Relations.{wish_tests}
use Rattle.admit_core.specs.Standing.{answer_of_row, ceiling_of_row, dossier_of, place_of, wish_of_row}
use Rattle.admit_core.specs.State.{State, entries}
use Rattle.admit_core.specs.Validity.{IsValid}
use Rattle.cut_laws.proofs.Accepted.{accepted_is}
use Rattle.cut_laws.proofs.Dated.{no_mark}
use Rattle.dossier_check.proofs.LastRow.{last_row-push}
use Rattle.dossier_check.proofs.NoFault.{HasNoFault}
use Rattle.dossier_check.proofs.Places.{nat_eq_same, nat_eq_self, nat_eq_sound}
use Rattle.dossier_check.proofs.RowFacts.{ceiling_schools_known, school_ids_apart, targets_known, wish_ids_apart}
use Rattle.dossier_check.proofs.RowFacts.{wish_ids_differ}
use Rattle.next_morning.specs.Morning.{state_row, tables_after}
use Rattle.next_morning.proofs.SameDossier.{same_school_ids}

-- rows whose ids differ
pub apart_by : {R : Type 0} (id : R → ℕ) (rows : List R) → IsDistinct nat_eq (map id rows)
    → AllPairs (λ r row. nat_eq (id row) (id r) ≡ false) rows
apart_by id rows apart i j d below lt =
    let long = length-map rows id in
    let e : nat_eq (get_or (map id rows) i (id d)) (get_or (map id rows) j (id d)) ≡ false =
    apart_from_distinct nat_eq (map id rows) i j (id d) apart below (omega (arith, lt, long)) in
    let at_i : get_or (map id rows) i (id d) ≡ id (get_or rows i d) =
    get_or-map id rows i d (id d) (omega (arith, below, lt)) in
    let at_j : get_or (map id rows) j (id d) ≡ id (get_or rows j d) = get_or-map id rows j d (id d) lt in
    nat_eq_sym (id (get_or rows j d)) (id (get_or rows i d)) ∙ (rw (at_i, at_j) at e)

-- rows whose days do not fall
not_below : (m n : ℕ) → n ≤ m → nat_lt m n ≡ false
not_below m n le = grind (arith, nat_tests, le)

module _ {R : Type 0} (day : R → ℕ) (rows : List R) (rises : IsNonDecreasing (map day rows)) where
  rises_at : (j : ℕ) (d : R) → j + 1 < length rows → day_falls day (take (j + 1) rows) (get_or rows (j + 1) d) ≡ None
  rises_at j d lt =
      let last : last_row (take (j + 1) rows) ≡ Some (get_or rows j d) =
      ap last_row (take_more rows j d (omega (arith, lt))) ∙ last_row-push (take j rows) (get_or rows j d) in
      let long = length-map rows day in
      let rise = rises j (j + 1) (day d) (omega arith) (omega (arith, lt, long)) in
      let at_i : get_or (map day rows) j (day d) ≡ day (get_or rows j d) =
      get_or-map day rows j d (day d) (omega (arith, lt)) in
      let at_j : get_or (map day rows) (j + 1) (day d) ≡ day (get_or rows (j + 1) d) =
      get_or-map day rows (j + 1) d (day d) lt in
      let le : day (get_or rows j d) ≤ day (get_or rows (j + 1) d) = omega (arith, rise, at_i, at_j) in
      rw (last, not_below (day (get_or rows (j + 1) d)) (day (get_or rows j d)) le) refl

  rises_pass : Passes (day_falls day) rows
  rises_pass = record {
    at = λ k d lt. elim (cases_eq k 0) [
      | inl none ↦ rw none refl
      | inr some ↦
          let e : k - 1 + 1 ≡ k = omega (arith, some) in
          subst (λ (i : ℕ). day_falls day (take i rows) (get_or rows i d) ≡ None) e
          (rises_at (k - 1) d (omega (arith, e, lt)))
    ];
  }

-- what holds of each row holds of those that are kept and moved
pub kept_all : {X : Type 0} (P : X → Type 0) (p : X → Bool) (f : X → X) → ((x : X) → P x → P (f x)) → (xs : List X)
    → AllByRecursion P xs → AllByRecursion P (map f (filter p xs))
kept_all P p f moves [] all = tt
kept_all P p f moves (x ∷ xs) all =
    elim (cases_Bool (p x)) [
      | inl passes ↦ rw passes (moves x all.0, kept_all P p f moves xs all.1)
      | inr fails ↦ rw fails (kept_all P p f moves xs all.1)
    ]

pub no_wish : WishRow
no_wish = record { id = 0; candidate = 0; programme = 0; school = None; preference = 0 }

pub state_ids : (ws : List WishRow) (ms : List Mark) → length ms ≡ length ws
    → map (λ (s : StateRow). s.wish) (map state_row (zip ws ms)) ≡ map (λ (w : WishRow). w.id) ws
state_ids [] [] same = refl
state_ids [] (m ∷ ms) same = absurd (omega arith)
state_ids (w ∷ ws) [] same = absurd (omega arith)
state_ids (w ∷ ws) (m ∷ ms) same = ap (λ (l : List ℕ). w.id ∷ l) (state_ids ws ms (omega (arith, same)))

module _ (a : ℕ) (t : Tables) (marks : List Mark) (long : length marks ≡ length t.wishes) where
  abbrev rows : List StateRow
  rows = map state_row (zip t.wishes marks)

  pub as_many : length rows ≡ length t.wishes
  as_many =
      let whole = length-map (zip t.wishes marks) state_row in
      let zipped = length-zip t.wishes marks in
      omega (arith, whole, zipped, long)

  pub row_at : (k : ℕ) (d : StateRow) → k < length t.wishes
      → get_or rows k d ≡ state_row (get_or t.wishes k no_wish, get_or marks k no_mark)
  row_at k d lt =
      get_or-map state_row (zip t.wishes marks) k (no_wish, no_mark) d
      (omega (arith, lt, long, length-zip t.wishes marks))
      ∙ ap state_row (get_or-zip t.wishes marks k (no_wish, no_mark) lt (omega (arith, lt, long)))

module _ (a : ℕ) (t : Tables) (marks : List Mark) (long : length marks ≡ length t.wishes) (fine : HasNoFault t) where
  abbrev evening : State
  evening = record { dossier = dossier_of t; marks = marks }

  abbrev n : Tables
  n = tables_after a t evening

  ids : school_ids n ≡ school_ids t
  ids = same_school_ids a t marks

  schools_pass : PassesAll school_tests n.schools
  schools_pass =
      and_then (differ (λ (row r : SchoolRow). nat_eq row.id r.id) Repeat n.schools
      (apart_by (λ (h : SchoolRow). h.id) n.schools (subst (IsDistinct nat_eq) (sym ids) (school_ids_apart t fine))))
      no_tests

  abbrev boarding_by : List ℕ → List (Test BoardRow)
  boarding_by known =
      repeats (λ (row r : BoardRow). nat_eq row.school r.school && nat_eq row.candidate r.candidate)
      ∷ names_unknown 1 (λ (row : BoardRow). is_among row.school known)
      ∷ takes_rank (λ (row r : BoardRow). nat_eq row.school r.school && nat_eq row.rank r.rank)
      ∷ []

  boarding_pass : PassesAll (boarding_tests n) n.boarding
  boarding_pass = subst (λ (known : List ℕ). PassesAll (boarding_by known) t.boarding) (sym ids) fine.boarding

  wishes_pass : PassesAll (wish_tests n) n.wishes
  wishes_pass =
      and_then fine.wishes.ids
      (and_then fine.wishes.once
      (and_then fine.wishes.programmes
      (and_then (subst (λ (known : List ℕ).
      Passes (names_unknown 4 (λ (row : WishRow). option_map_or (λ h. is_among h known) row.school true)) t.wishes)
      (sym ids) fine.wishes.schools)
      (and_then fine.wishes.ranked
      (and_then fine.wishes.boarded
      (and_then fine.wishes.like_first
      (and_then fine.wishes.preferences no_tests)))))))

  -- ---- statuses
  own_row : (k : ℕ) (d : WishRow) → k < length t.wishes
      → find (λ (w : WishRow). nat_eq (get_or t.wishes k d).id w.id) t.wishes ≡ Some (get_or t.wishes k d)
  own_row k d lt =
      let p : WishRow → Bool = λ w. nat_eq (get_or t.wishes k d).id w.id in
      find_at p t.wishes
      ∙ ap (λ (i : ℕ). slice_get t.wishes i) (position_or_len_is p t.wishes k d (omega (arith, lt))
      (λ j below. wish_ids_differ t fine j k d below lt) (λ there. nat_eq_self (get_or t.wishes k d).id))
      ∙ slice_get-get_or t.wishes k d lt

  pub state_known : All (λ (row : StateRow). is_among row.wish (wish_ids n) ≡ true) n.state
  state_known k d lt =
      let in_k : k < length t.wishes = omega (arith, lt, as_many a t marks long) in
      let many = length-map t.wishes (λ (w : WishRow). w.id) in
      let at : get_or (wish_ids t) k 0 ≡ (get_or t.wishes k no_wish).id =
      get_or-map (λ (w : WishRow). w.id) t.wishes k no_wish 0 in_k in
      let id : nat_eq (get_or t.wishes k no_wish).id (get_or (wish_ids t) k 0) ≡ true = nat_eq_same _ _ (sym at) in
      subst (λ (row : StateRow). is_among row.wish (wish_ids t) ≡ true) (sym (row_at a t marks long k d in_k))
      (list_any_at (nat_eq (get_or t.wishes k no_wish).id) (wish_ids t) k 0 (omega (arith, in_k, many)) id)

  candidate_at : (k : ℕ) → k < length t.wishes
      → candidate_with t (get_or t.wishes k no_wish).id ≡ Some (get_or t.wishes k no_wish).candidate
  candidate_at k lt = ap (option_map (λ (w : WishRow). w.candidate)) (own_row k no_wish lt)

  abbrev as_entry : ℕ → Wish × Mark
  as_entry k = (wish_of_row t (get_or t.wishes k no_wish), get_or marks k no_mark)

  as_many_wishes : length (map (wish_of_row t) t.wishes) ≡ length t.wishes
  as_many_wishes = length-map t.wishes (wish_of_row t)

  entry_at : (k : ℕ) → k < length t.wishes
      → get_or (entries evening) k (wish_of_row t no_wish, no_mark) ≡ as_entry k
  entry_at k lt =
      get_or-zip (map (wish_of_row t) t.wishes) marks k (wish_of_row t no_wish, no_mark)
      (omega (arith, lt, as_many_wishes)) (omega (arith, lt, long))
      ∙ ap (λ (w : Wish). (w, get_or marks k no_mark))
      (get_or-map (wish_of_row t) t.wishes k no_wish (wish_of_row t no_wish) lt)

  not_both : IsOneAccepted evening → (i j : ℕ) → i < j → j < length t.wishes
      → (get_or t.wishes i no_wish).candidate ≡ (get_or t.wishes j no_wish).candidate
      → is_accepted (get_or marks i no_mark).status ≡ true → is_accepted (get_or marks j no_mark).status ≡ true → ⊥
  not_both one i j below lt same first second =
      let e : Wish × Mark = (wish_of_row t no_wish, no_mark) in
      let within : j < length (entries evening) =
      omega (arith, lt, long, as_many_wishes, length-zip (map (wish_of_row t) t.wishes) marks) in
      let left = subst (λ (x : Wish × Mark). AcceptsOne x (get_or (entries evening) j e))
      (entry_at i (omega (arith, below, lt))) (one i j e below within) in
      let both = subst (λ (x : Wish × Mark). AcceptsOne (as_entry i) x) (entry_at j lt) left in
      both same (accepted_is _ first) (accepted_is _ second)

  pub one_accepted : IsOneAccepted evening
      → AllPairs (λ (r row : StateRow). is_accepted row.status ≡ true
      → (is_accepted r.status && same_candidate (candidate_with t row.wish) (candidate_with t r.wish)) ≡ false) n.state
  one_accepted one i j d below lt =
      let in_j : j < length t.wishes = omega (arith, lt, as_many a t marks long) in
      let in_i : i < length t.wishes = omega (arith, in_j, below) in
      let c : ℕ = (get_or t.wishes i no_wish).candidate in
      let e : ℕ = (get_or t.wishes j no_wish).candidate in
      rw (row_at a t marks long i d in_i, row_at a t marks long j d in_j, candidate_at i in_i, candidate_at j in_j)
      (λ second. elim (cases_Bool (is_accepted (get_or marks i no_mark).status && nat_eq e c)) [
        | inl both ↦
            let parts = and_parts (is_accepted (get_or marks i no_mark).status) (nat_eq e c) both in
            absurd (not_both one i j below in_j (sym (nat_eq_sound e c parts.1)) parts.0 second)
        | inr apart ↦ apart
      ])

  state_pass : IsOneAccepted evening → PassesAll (state_tests n) n.state
  state_pass one =
      and_then (differ (λ (row r : StateRow). nat_eq row.wish r.wish) Repeat n.state
      (apart_by (λ (s : StateRow). s.wish) n.state
      (subst (IsDistinct nat_eq) (sym (state_ids t.wishes marks long)) (wish_ids_apart t fine))))
      (and_then (all_known (λ (row : StateRow). is_among row.wish (wish_ids n)) (Unknown 1) n.state state_known)
      (and_then (differ_when (λ (row : StateRow). is_accepted row.status)
      (λ (row r : StateRow).
      is_accepted r.status && same_candidate (candidate_with t row.wish) (candidate_with t r.wish))
      TwoAccepted n.state (one_accepted one))
      no_tests))

  -- ---- ceilings and answers
  ceilings_known : All (λ (x : CeilingRow). is_among x.school (school_ids n) ≡ true) n.ceilings
  ceilings_known =
      let P : CeilingRow → Type 0 = λ x. is_among x.school (school_ids t) ≡ true in
      subst (λ (known : List ℕ). All (λ (x : CeilingRow). is_among x.school known ≡ true) n.ceilings) (sym ids)
      (All-from_recursion P n.ceilings
      (kept_all P (λ (x : CeilingRow). nat_lt a x.day) (λ (x : CeilingRow). record x { day = x.day - a }) (λ x e. e)
      t.ceilings
      (recursion_from_All P t.ceilings (ceiling_schools_known t fine))))

  same_is_target : (kind : AnswerKind) (target : ℕ) → is_target t kind target ≡ true → is_target n kind target ≡ true
  same_is_target Accept target is = is
  same_is_target Refuse target is = is
  same_is_target Withdraw target is = is
  same_is_target Quit target is = is

  answers_known : All (λ (x : AnswerRow). is_target n x.kind x.target ≡ true) n.answers
  answers_known k d lt =
      let P : AnswerRow → Type 0 = λ x. is_target t x.kind x.target ≡ true in
      let x : AnswerRow = get_or n.answers k d in
      same_is_target x.kind x.target
      (All-from_recursion P n.answers
      (kept_all P (λ (y : AnswerRow). nat_lt a y.day) (λ (y : AnswerRow). record y { day = y.day - a }) (λ y e. e)
      t.answers
      (recursion_from_All P t.answers (targets_known t fine))) k d lt)

  module _ (valid : IsValid (dossier_of n)) where
    ceilings_apart : AllPairs (λ (r row : CeilingRow). (nat_eq row.day r.day && nat_eq row.school r.school) ≡ false)
        n.ceilings
    ceilings_apart i j d below lt =
        let x : CeilingRow = get_or n.ceilings i d in
        let y : CeilingRow = get_or n.ceilings j d in
        let e : CeilingChange = ceiling_of_row n d in
        let many = length-map n.ceilings (ceiling_of_row n) in
        let at_i : get_or (map (ceiling_of_row n) n.ceilings) i e ≡ ceiling_of_row n x =
        get_or-map (ceiling_of_row n) n.ceilings i d e (omega (arith, below, lt)) in
        let at_j : get_or (map (ceiling_of_row n) n.ceilings) j e ≡ ceiling_of_row n y =
        get_or-map (ceiling_of_row n) n.ceilings j d e lt in
        elim (cases_Bool (nat_eq y.day x.day && nat_eq y.school x.school)) [
          | inl both ↦
              let parts = and_parts (nat_eq y.day x.day) (nat_eq y.school x.school) both in
              absurd (valid.ceilings_apart i j e below (omega (arith, lt, many))
              (ap (λ (z : CeilingChange). z.day) at_i ∙ sym (nat_eq_sound y.day x.day parts.0)
              ∙ ap (λ (z : CeilingChange). z.day) (sym at_j))
              (ap (λ (z : CeilingChange). z.school) at_i
              ∙ ap (place_of (school_ids n)) (sym (nat_eq_sound y.school x.school parts.1))
              ∙ ap (λ (z : CeilingChange). z.school) (sym at_j)))
          | inr apart ↦ apart
        ]

    ceilings_pass : PassesAll (ceiling_tests n) n.ceilings
    ceilings_pass =
        and_then (differ (λ (row r : CeilingRow). nat_eq row.day r.day && nat_eq row.school r.school) Repeat n.ceilings
        ceilings_apart)
        (and_then (all_known (λ (row : CeilingRow). is_among row.school (school_ids n)) (Unknown 2) n.ceilings
        ceilings_known)
        (and_then (rises_pass (λ (row : CeilingRow). row.day) n.ceilings
        (subst IsNonDecreasing (map-map (λ (c : CeilingChange). c.day) (ceiling_of_row n) n.ceilings)
        valid.ceilings_by_day))
        no_tests))

    answers_pass : PassesAll (answer_tests n) n.answers
    answers_pass =
        and_then (all_known (λ (row : AnswerRow). is_target n row.kind row.target) (Unknown 3) n.answers answers_known)
        (and_then (rises_pass (λ (row : AnswerRow). row.day) n.answers
        (subst IsNonDecreasing (map-map (λ (x : Answer). x.day) (answer_of_row n) n.answers) valid.answers_by_day))
        no_tests)

    pub no_fault_with : (states : List StateRow) → PassesAll (state_tests n) states
        → first_fault (record n { state = states }) ≡ None
    no_fault_with states passes =
        none_or_none (none_in slots.Groups group_tests n.groups fine.groups)
        (none_or_none (none_in slots.Programmes (programme_tests n) n.programmes fine.programmes)
        (none_or_none (none_in slots.Schools school_tests n.schools schools_pass)
        (none_or_none (none_in slots.Rankings (ranking_tests n) n.rankings fine.rankings)
        (none_or_none (none_in slots.Boarding (boarding_tests n) n.boarding boarding_pass)
        (none_or_none (none_in slots.Wishes (wish_tests n) n.wishes wishes_pass)
        (none_or_none (none_in slots.State (state_tests n) states passes)
        (none_or_none (none_in slots.Ceilings (ceiling_tests n) n.ceilings ceilings_pass)
        (none_or_none (none_in slots.Answers (answer_tests n) n.answers answers_pass)
        refl))))))))

    pub no_fault_then : IsOneAccepted evening → first_fault n ≡ None
    no_fault_then one = no_fault_with n.state (state_pass one)

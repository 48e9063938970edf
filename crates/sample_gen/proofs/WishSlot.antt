-- The wishes of a sample have no fault.
use Rattle.std.proofs.Common.{◌≡◌, ℕ, ◌+◌, ◌-◌, ◌*◌, ◌%◌, ◌<◌, ◌≤◌, suc, Bool, true, false, not, ◌&&◌, ◌||◌}
use Rattle.std.proofs.Common.{if◌then◌else◌, nat_eq, nat_lt, List, [], ◌∷◌, Option, Some, None, is_some, option_map}
use Rattle.std.proofs.Common.{get_or, length, take, refl, sym, ◌∙◌, ap, arith, ⊎_elim, lit≤}
use Rattle.std.specs.List.{All, AllPairs, flat_map, find, enumerate_from}
use Rattle.std.specs.Option.{option_map_or}
use Rattle.std.proofs.lemmas.Bool.{ne_eqb, eqb-true, ltb-true, and_left, and_right, or_from, cases_Bool, cond_both}
use Rattle.std.proofs.lemmas.Bool.{cond-true, cond-false}
use Rattle.std.proofs.lemmas.List.Elements.{All-nil, All-cons, All-weaker}
use Rattle.std.proofs.lemmas.List.Kept.{AllPairs-cons}
use Rattle.admit_core.proofs.NoFaults.{Passes, no_tests, and_then, none_in, before_row, differ, differ_when, all_known}
use Rattle.admit_core.specs.declared.slot.Slot.TheVariants as slots
use Rattle.admit_core.specs.declared.refusal.Reason.TheVariants.{Repeat, Unknown, Unranked, NoBoardingRank}
use Rattle.admit_core.specs.declared.refusal.Reason.TheVariants.{PreferenceMixed, PreferenceTaken}
use Rattle.admit_core.specs.declared.tables.WishRow.{WishRow}
use Rattle.admit_core.specs.Lists.{is_among}
use Rattle.admit_core.specs.Faults.{first_in}
use Rattle.admit_core.specs.Relations.{programme_ids, school_ids, same_school, same_wish, is_ranked, is_boarded}
use Rattle.admit_core.specs.Relations.{are_mixed, mixed_with, preference_mixed, wish_tests}
use Rattle.sample_gen.specs.declared.choices.Choice.{Choice}
use Rattle.sample_gen.specs.Choices.{choices_of, is_boarder}
use Rattle.sample_gen.specs.Samples.{preference_of, wish_row, wish_rows, sample_tables}
use Rattle.sample_gen.proofs.Pairs.{All-flat_map, AllPairs-nil, AllPairs-flat_map, AllPairs-from}
use Rattle.sample_gen.proofs.ChoiceFacts.{IsChoice, Precedes, are_choices, choices_precede, other_programme}
use Rattle.sample_gen.proofs.ChoiceFacts.{programme_from_one, programme_at_most, school_from_one, school_at_most}
use Rattle.sample_gen.proofs.SampleRanges.{All-wish}
use Rattle.sample_gen.proofs.ItemSlots.{programme_known, school_known}
use Rattle.sample_gen.proofs.FoundChoices.{choice_is_ranked, choice_is_boarded}
use Rattle.sample_gen.proofs.RankSlots.{not_both}

-- no first wish of a candidate is mixed with a row, where none before it is
module _ (row : WishRow) where
  none_mixed : (rows : List WishRow) (d : WishRow) (k : ℕ)
      → ((j : ℕ) → j < length rows → nat_eq row.candidate (get_or rows j d).candidate ≡ true
      → are_mixed row (get_or rows j d) ≡ false)
      → option_map_or (mixed_with row) (find (λ x. nat_eq row.candidate x.1.candidate) (enumerate_from k rows)) None
      ≡ None
  none_mixed [] d k fine = refl
  none_mixed (r ∷ rows) d k fine =
      let answer = λ (o : Option (ℕ × WishRow)). option_map_or (mixed_with row) o None in
      let rest = find (λ x. nat_eq row.candidate x.1.candidate) (enumerate_from (k + 1) rows) in
      let test : Bool = nat_eq row.candidate r.candidate in
      ⊎_elim
      (λ t. ap answer (cond-true test (Some (k, r)) rest t)
      ∙ cond-false (are_mixed row r) (Some k) None (fine 0 (omega arith) t))
      (λ f. ap answer (cond-false test (Some (k, r)) rest f)
      ∙ none_mixed rows d (k + 1) (λ j lt. fine (suc j) (omega arith)))
      (cases_Bool test)

unmixed : (rows : List WishRow) → AllPairs (λ r row. nat_eq row.candidate r.candidate ≡ true → are_mixed row r ≡ false)
    rows
    → Passes preference_mixed rows
unmixed rows pairs =
    record {
      at = λ k d lt. ap (option_map PreferenceMixed)
          (none_mixed (get_or rows k d) (take k rows) d 2
          (before_row (λ row r. nat_eq row.candidate r.candidate ≡ true → are_mixed row r ≡ false) rows pairs k d lt));
    }

-- what the tests ask of two wishes
record AreApart (r row : WishRow) : Type 0 where
  pub ids : nat_eq row.id r.id ≡ false
  pub wishes : same_wish row r ≡ false
  pub unmixed : nat_eq row.candidate r.candidate ≡ true → are_mixed row r ≡ false
  pub preferences : nat_lt 0 row.preference ≡ true
      → (nat_eq row.candidate r.candidate && nat_eq row.preference r.preference) ≡ false

-- two preferences are both 0, or both positive
both_positive : (p q : ℕ) → 1 ≤ p → 1 ≤ q → (not (nat_eq p 0) && nat_eq q 0 || nat_eq p 0 && not (nat_eq q 0)) ≡ false
both_positive p q p_low q_low =
    let p_not : nat_eq p 0 ≡ false = ne_eqb p 0 (λ e. absurd (omega arith)) in
    let q_not : nat_eq q 0 ≡ false = ne_eqb q 0 (λ e. absurd (omega arith)) in
    or_from (not (nat_eq p 0) && nat_eq q 0) (nat_eq p 0 && not (nat_eq q 0))
    (and_right (not (nat_eq p 0)) (nat_eq q 0) q_not) (and_left (nat_eq p 0) (not (nat_eq q 0)) p_not)

both_zero : (p q : ℕ) → p ≡ 0 → q ≡ 0 → (not (nat_eq p 0) && nat_eq q 0 || nat_eq p 0 && not (nat_eq q 0)) ≡ false
both_zero p q p_is q_is = ap (λ i. not (nat_eq i 0) && nat_eq q 0 || nat_eq i 0 && not (nat_eq q 0)) p_is
    ∙ ap (λ i. false || not (nat_eq i 0)) q_is

one_or_two : (b : Bool) → (1 ≤ (if b then 1 else 2)) × ((if b then 1 else 2) ≤ 2)
one_or_two true = (lit≤ tt, lit≤ tt)
one_or_two false = (lit≤ tt, lit≤ tt)

two_or_one : (b : Bool) → (1 ≤ (if b then 2 else 1)) × ((if b then 2 else 1) ≤ 2)
two_or_one true = (lit≤ tt, lit≤ tt)
two_or_one false = (lit≤ tt, lit≤ tt)

-- whether the candidate has automatic answers
abbrev has_answers : Choice → Bool
has_answers x = nat_eq (x.candidate % 4) 0

preference_is : (x : Choice) (boards : Bool) → has_answers x ≡ true
    → preference_of x boards ≡ 2 * x.place + (if boards then 1 else 2)
preference_is x boards has = cond-true (has_answers x) (2 * x.place + (if boards then 1 else 2)) 0 has

no_preference : (x : Choice) (boards : Bool) → has_answers x ≡ false → preference_of x boards ≡ 0
no_preference x boards has_none = cond-false (has_answers x) (2 * x.place + (if boards then 1 else 2)) 0 has_none

preference_low : (x : Choice) (boards : Bool) → has_answers x ≡ true → 2 * x.place + 1 ≤ preference_of x boards
preference_low x boards has =
    let e : preference_of x boards ≡ 2 * x.place + (if boards then 1 else 2) = preference_is x boards has in
    let low : 1 ≤ (if boards then 1 else 2) = (one_or_two boards).0 in
    rw e (omega arith)

preference_high : (x : Choice) (boards : Bool) → has_answers x ≡ true → preference_of x boards ≤ 2 * x.place + 2
preference_high x boards has =
    let e : preference_of x boards ≡ 2 * x.place + (if boards then 1 else 2) = preference_is x boards has in
    let high : (if boards then 1 else 2) ≤ 2 = (one_or_two boards).1 in
    rw e (omega arith)

positive : (x : Choice) (boards : Bool) → has_answers x ≡ true → 1 ≤ preference_of x boards
positive x boards has = let low : 2 * x.place + 1 ≤ preference_of x boards = preference_low x boards has in omega arith

module _ (x y : Choice) (s t : Option ℕ) where
  same_answers : y.candidate ≡ x.candidate → has_answers y ≡ has_answers x
  same_answers same = ap (λ c. nat_eq (c % 4) 0) same

  not_mixed : nat_eq y.candidate x.candidate ≡ true → are_mixed (wish_row y t) (wish_row x s) ≡ false
  not_mixed equal =
      let same : y.candidate ≡ x.candidate = eqb-true y.candidate x.candidate equal in
      let p : ℕ = preference_of y (is_some t) in
      let q : ℕ = preference_of x (is_some s) in
      ⊎_elim (λ has. both_positive p q (positive y (is_some t) (same_answers same ∙ has)) (positive x (is_some s) has))
      (λ none. both_zero p q (no_preference y (is_some t) (same_answers same ∙ none))
      (no_preference x (is_some s) none))
      (cases_Bool (has_answers x))

-- a preference that is not 0 is one of automatic answers
answers_of : (x : Choice) (boards : Bool) → nat_lt 0 (preference_of x boards) ≡ true → has_answers x ≡ true
answers_of x boards some =
    ⊎_elim (λ has. has)
    (λ none. let e : preference_of x boards ≡ 0 = no_preference x boards none in
    let low : 0 < preference_of x boards = ltb-true 0 (preference_of x boards) some in absurd (omega arith))
    (cases_Bool (has_answers x))

ids_differ : (c d i j p q : ℕ) → 1 ≤ c → 1 ≤ d → 3 * c + i < 3 * d + j → p ≤ 2 → 1 ≤ q
    → 6 * (d - 1) + 2 * j + q ≡ 6 * (c - 1) + 2 * i + p → ⊥
ids_differ c d i j p q c_low d_low before p_high q_low e = omega arith

earlier_is_less : (c d i j p q : ℕ) → 3 * c + i < 3 * d + j → d ≡ c → q ≡ p → p ≤ 2 * i + 2 → 2 * j + 1 ≤ q → ⊥
earlier_is_less c d i j p q before same equal p_high q_low = omega arith

-- wishes of two choices
apart_across : (n : ℕ) (x y : Choice) → IsChoice n x → IsChoice n y → Precedes x y → (s t : Option ℕ)
    → AreApart (wish_row x s) (wish_row y t)
apart_across n x y is_x is_y before s t =
    record {
      ids = ne_eqb (wish_row y t).id (wish_row x s).id
          (ids_differ x.candidate y.candidate x.place y.place (if is_some s then 2 else 1)
          (if is_some t then 2 else 1) is_x.from_one is_y.from_one before
          (two_or_one (is_some s)).1 (two_or_one (is_some t)).0);
      wishes = and_left (nat_eq y.candidate x.candidate && nat_eq y.programme x.programme) (same_school t s)
          (not_both y.candidate x.candidate y.programme x.programme
          (λ same one. other_programme n x y is_x is_y before same one));
      unmixed = not_mixed x y s t;
      preferences = λ some. not_both y.candidate x.candidate (preference_of y (is_some t)) (preference_of x (is_some s))
          (λ same equal.
          let has : has_answers y ≡ true = answers_of y (is_some t) some in
          earlier_is_less x.candidate y.candidate x.place y.place (preference_of x (is_some s))
          (preference_of y (is_some t)) before same equal
          (preference_high x (is_some s) (sym (ap (λ c. nat_eq (c % 4) 0) same) ∙ has))
          (preference_low y (is_some t) has));
    }

one_less : (i p q : ℕ) → p ≡ 2 * i + 1 → q ≡ 2 * i + 2 → p ≡ q → ⊥
one_less i p q p_is q_is e = omega arith

one_more : (i : ℕ) → i + 2 ≡ i + 1 → ⊥
one_more i e = omega arith

-- the two wishes of a choice
apart_within : (x : Choice) → AreApart (wish_row x None) (wish_row x (Some x.school))
apart_within x =
    record {
      ids = ne_eqb (wish_row x (Some x.school)).id (wish_row x None).id
          (one_more (6 * (x.candidate - 1) + 2 * x.place));
      wishes = and_right (nat_eq x.candidate x.candidate && nat_eq x.programme x.programme) false refl;
      unmixed = not_mixed x x None (Some x.school);
      preferences = λ some. not_both x.candidate x.candidate (preference_of x true) (preference_of x false)
          (λ same equal.
          let has : has_answers x ≡ true = answers_of x true some in
          one_less x.place (preference_of x true) (preference_of x false) (preference_is x true has)
          (preference_is x false has) equal);
    }

own_pairs : (x : Choice) → AllPairs AreApart (wish_rows x)
own_pairs x =
    let alone = wish_row x None in
    let boarding = wish_row x (Some x.school) in
    AllPairs-cons AreApart alone _
    (cond_both (is_boarder x) (boarding ∷ []) [] (λ (ys : List WishRow). All (AreApart alone) ys)
    (λ e. All-cons (AreApart alone) boarding [] (apart_within x) (All-nil (AreApart alone)))
    (λ e. All-nil (AreApart alone)))
    (cond_both (is_boarder x) (boarding ∷ []) [] (λ (ys : List WishRow). AllPairs AreApart ys)
    (λ e. AllPairs-cons AreApart boarding [] (All-nil (AreApart boarding)) (AllPairs-nil AreApart))
    (λ e. AllPairs-nil AreApart))

module _ (n : ℕ) where
  wishes_apart : AllPairs AreApart (flat_map wish_rows (choices_of n))
  wishes_apart =
      AllPairs-flat_map AreApart wish_rows (choices_of n)
      (All-weaker (IsChoice n) (λ x. AllPairs AreApart (wish_rows x)) (λ x is. own_pairs x) (choices_of n)
      (are_choices n))
      (AllPairs-from (IsChoice n) Precedes (λ x y. All (λ a. All (AreApart a) (wish_rows y)) (wish_rows x))
      (choices_of n)
      (λ x y is_x is_y before. All-wish (λ a. All (AreApart a) (wish_rows y)) x (to_all x y is_x is_y before None)
      (λ e. to_all x y is_x is_y before (Some x.school)))
      (are_choices n) (choices_precede n))
    where
      to_all : (x y : Choice) → IsChoice n x → IsChoice n y → Precedes x y → (s : Option ℕ)
          → All (AreApart (wish_row x s)) (wish_rows y)
      to_all x y is_x is_y before s =
          All-wish (AreApart (wish_row x s)) y (apart_across n x y is_x is_y before s None)
          (λ e. apart_across n x y is_x is_y before s (Some y.school))

  each_wish : (P : WishRow → Type 0) → ((x : Choice) → IsChoice n x → P (wish_row x None))
      → ((x : Choice) → IsChoice n x → is_boarder x ≡ true → P (wish_row x (Some x.school)))
      → All P (flat_map wish_rows (choices_of n))
  each_wish P alone boarding =
      All-flat_map P wish_rows (choices_of n)
      (All-weaker (IsChoice n) (λ x. All P (wish_rows x)) (λ x is. All-wish P x (alone x is) (boarding x is))
      (choices_of n) (are_choices n))

  pub wishes_fine : first_in slots.Wishes (wish_tests (sample_tables n)) (sample_tables n).wishes ≡ None
  wishes_fine =
      let t = sample_tables n in
      let rows = flat_map wish_rows (choices_of n) in
      none_in slots.Wishes (wish_tests (sample_tables n)) rows
      (and_then (differ (λ row r. nat_eq row.id r.id) Repeat rows
      (λ i j d lt within. (wishes_apart i j d lt within).ids))
      (and_then (differ same_wish Repeat rows (λ i j d lt within. (wishes_apart i j d lt within).wishes))
      (and_then (all_known (λ row. is_among row.programme (programme_ids t)) (Unknown 3) rows
      (each_wish (λ row. is_among row.programme (programme_ids t) ≡ true)
      (λ x is. programme_known n x.programme (programme_from_one n x is) (programme_at_most n x is))
      (λ x is e. programme_known n x.programme (programme_from_one n x is) (programme_at_most n x is))))
      (and_then (all_known (λ row. option_map_or (λ h. is_among h (school_ids t)) row.school true) (Unknown 4) rows
      (each_wish (λ row. option_map_or (λ h. is_among h (school_ids t)) row.school true ≡ true) (λ x is. refl)
      (λ x is e. school_known n x.school (school_from_one n x is) (school_at_most n x is))))
      (and_then (all_known (λ row. is_ranked t row.programme row.candidate) Unranked rows
      (each_wish (λ row. is_ranked t row.programme row.candidate ≡ true) (λ x is. choice_is_ranked n x is)
      (λ x is e. choice_is_ranked n x is)))
      (and_then (all_known (λ row. option_map_or (λ h. is_boarded t h row.candidate) row.school true) NoBoardingRank
      rows
      (each_wish (λ row. option_map_or (λ h. is_boarded t h row.candidate) row.school true ≡ true) (λ x is. refl)
      (choice_is_boarded n)))
      (and_then (unmixed rows (λ i j d lt within. (wishes_apart i j d lt within).unmixed))
      (and_then (differ_when (λ row. nat_lt 0 row.preference)
      (λ row r. nat_eq row.candidate r.candidate && nat_eq row.preference r.preference) PreferenceTaken rows
      (λ i j d lt within. (wishes_apart i j d lt within).preferences))
      no_tests))))))))

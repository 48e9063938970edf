-- The groups, programmes and schools of a sample have no fault, and which ids are there.
use Rattle.std.proofs.Common.{◌≡◌, ℕ, ◌+◌, ◌-◌, ◌<◌, ◌≤◌, suc, Bool, true, false, nat_eq, List, [], ◌∷◌, Some, None}
use Rattle.std.proofs.Common.{map, get_or, refl, sym, ◌∙◌, ap, subst, arith, ⊎_elim}
use Prim.Native.Nat.{zero}
use Rattle.std.specs.List.{AllPairs, range_with_len, find}
use Rattle.std.proofs.lemmas.Bool.{ne_eqb, eq-eqb, eqb-true, eqb-false, cases_Bool, cond-true, cond-false}
use Rattle.std.proofs.lemmas.List.Folds.{list_any_at}
use Rattle.std.proofs.lemmas.List.Elements.{All-map}
use Rattle.std.proofs.lemmas.List.FromFn.{length-range_with_len, get_or-range_with_len}
use Rattle.admit_core.proofs.NoFaults.{no_tests, and_then, none_in, differ, all_known}
use Rattle.admit_core.specs.declared.slot.Slot.TheVariants as slots
use Rattle.admit_core.specs.declared.refusal.Reason.TheVariants.{Repeat, Unknown}
use Rattle.admit_core.specs.Lists.{is_among}
use Rattle.admit_core.specs.Faults.{first_in}
use Rattle.admit_core.specs.Relations.{group_ids, programme_ids, school_ids, group_tests, programme_tests, school_tests}
use Rattle.sample_gen.specs.Choices.{numbers, programmes_of, school_of}
use Rattle.sample_gen.specs.Samples.{group_row, programme_row, school_row, sample_tables}
use Rattle.sample_gen.proofs.Pairs.{All-range, AllPairs-map, AllPairs-range}

among_numbers : (n i : ℕ) → 1 ≤ i → i ≤ n → is_among i (numbers n) ≡ true
among_numbers n i low high =
    let lt : i - 1 < n = omega arith in
    list_any_at (nat_eq i) (numbers n) (i - 1) 0 (subst (λ k. i - 1 < k) (sym (length-range_with_len 1 n)) lt)
    (eq-eqb i (get_or (numbers n) (i - 1) 0)
    (let e : get_or (numbers n) (i - 1) 0 ≡ 1 + (i - 1) = get_or-range_with_len 1 n (i - 1) 0 lt in omega arith))

module _ {R : Type 0} (id : R → ℕ) (row : ℕ → R) (is : (i : ℕ) → id (row i) ≡ i) where
  ids_are : (xs : List ℕ) → map id (map row xs) ≡ xs
  ids_are [] = refl
  ids_are (x ∷ xs) = ap (λ i. i ∷ map id (map row xs)) (is x) ∙ ap (λ ys. x ∷ ys) (ids_are xs)

  pub is_there : (n i : ℕ) → 1 ≤ i → i ≤ n → is_among i (map id (map row (numbers n))) ≡ true
  is_there n i low high = ap (is_among i) (ids_are (numbers n)) ∙ among_numbers n i low high

  apart : (i j : ℕ) → i < j → nat_eq (id (row (1 + j))) (id (row (1 + i))) ≡ false
  apart i j lt = ne_eqb (id (row (1 + j))) (id (row (1 + i)))
      (λ e. let a = is (1 + j) in let b = is (1 + i) in absurd (omega arith))

  pub rows_apart : (n : ℕ) → AllPairs (λ r row'. nat_eq (id row') (id r) ≡ false) (map row (numbers n))
  rows_apart n =
      AllPairs-map (λ r row'. nat_eq (id row') (id r) ≡ false) row (numbers n)
      (AllPairs-range (λ i j. nat_eq (id (row j)) (id (row i)) ≡ false) 1 n (λ i j lt within. apart i j lt))

-- the row with an id
pub find_row : {R : Type 0} (id : R → ℕ) (row : ℕ → R) (is : (i : ℕ) → id (row i) ≡ i) (a k i : ℕ) → a ≤ i → i < a + k
    → find (λ r. nat_eq i (id r)) (map row (range_with_len a k)) ≡ Some (row i)
find_row id row is a zero i low high = absurd (omega arith)
find_row id row is a (suc k) i low high =
    let rest = find (λ r. nat_eq i (id r)) (map row (range_with_len (a + 1) k)) in
    let test : Bool = nat_eq i (id (row a)) in
    ⊎_elim (λ t. cond-true test (Some (row a)) rest t ∙ ap (λ j. Some (row j)) (sym (eqb-true i (id (row a)) t ∙ is a)))
    (λ f. cond-false test (Some (row a)) rest f
    ∙ find_row id row is (a + 1) k i (above a i low (λ e. eqb-false i (id (row a)) f (e ∙ sym (is a))))
    (further a k i high))
    (cases_Bool test)
  where
    above : (a i : ℕ) → a ≤ i → (i ≡ a → ⊥) → a + 1 ≤ i
    above a i le ne = omega arith

    further : (a k i : ℕ) → i < a + suc k → i < a + 1 + k
    further a k i lt = omega arith

pub groups_fine : (n : ℕ) → first_in slots.Groups group_tests (sample_tables n).groups ≡ None
groups_fine n =
    let rows = map group_row (numbers (programmes_of n)) in
    none_in slots.Groups group_tests rows
    (and_then (differ (λ row r. nat_eq row.id r.id) Repeat rows
    (rows_apart (λ g. g.id) group_row (λ i. refl) (programmes_of n))) no_tests)

pub schools_fine : (n : ℕ) → first_in slots.Schools school_tests (sample_tables n).schools ≡ None
schools_fine n =
    let rows = map school_row (numbers (school_of (programmes_of n))) in
    none_in slots.Schools school_tests rows
    (and_then (differ (λ row r. nat_eq row.id r.id) Repeat rows
    (rows_apart (λ h. h.id) school_row (λ i. refl) (school_of (programmes_of n)))) no_tests)

pub group_known : (n i : ℕ) → 1 ≤ i → i ≤ programmes_of n → is_among i (group_ids (sample_tables n)) ≡ true
group_known n i low high = is_there (λ g. g.id) group_row (λ i. refl) (programmes_of n) i low high

pub programme_known : (n i : ℕ) → 1 ≤ i → i ≤ programmes_of n → is_among i (programme_ids (sample_tables n)) ≡ true
programme_known n i low high = is_there (λ p. p.id) programme_row (λ i. refl) (programmes_of n) i low high

pub school_known : (n i : ℕ) → 1 ≤ i → i ≤ school_of (programmes_of n)
    → is_among i (school_ids (sample_tables n)) ≡ true
school_known n i low high = is_there (λ h. h.id) school_row (λ i. refl) (school_of (programmes_of n)) i low high

pub programmes_fine : (n : ℕ) → first_in slots.Programmes (programme_tests (sample_tables n))
    (sample_tables n).programmes ≡ None
programmes_fine n =
    let rows = map programme_row (numbers (programmes_of n)) in
    none_in slots.Programmes (programme_tests (sample_tables n)) rows
    (and_then (differ (λ row r. nat_eq row.id r.id) Repeat rows
    (rows_apart (λ p. p.id) programme_row (λ i. refl) (programmes_of n)))
    (and_then (all_known (λ row. is_among row.group (group_ids (sample_tables n))) (Unknown 2) rows
    (All-map (λ row. is_among row.group (group_ids (sample_tables n)) ≡ true) programme_row (numbers (programmes_of n))
    (All-range (λ i. is_among i (group_ids (sample_tables n)) ≡ true) 1 (programmes_of n)
    (λ k lt. group_known n (1 + k) (omega arith) (omega arith)))))
    no_tests))

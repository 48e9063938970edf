-- Those who list a programme, in the order in which they are called.
use Rattle.std.proofs.Common.{ℕ, zero, suc, ◌+◌, ◌≤◌, ◌<◌, ◌≡◌, Bool, true, false, List, [], ◌∷◌, map, length}
use Rattle.std.proofs.Common.{All, None, take, get_or, inl, inr, refl, sym, ◌∙◌, ap, arith, nat_eq, filter, subst}
use Rattle.std.specs.Prelude.{is_some}
use Rattle.std.specs.List.{range_with_len, AllByRecursion, IsDistinct}
use Rattle.std.specs.List.Sorted.{IsNonDecreasing, IsPermutation, IsStrictlyIncreasing}
use Rattle.std.proofs.Math.ListN.{set}
use Rattle.std.proofs.lemmas.Bool.{cases_Bool, cases_eq, and_parts, and_from, eqb-true, false≢true, or_cases}
use Rattle.std.proofs.lemmas.Bool.Decides.{Decides-eqb}
use Rattle.std.proofs.lemmas.List.{get_or-map, length-map, length-set, get_or-set_same, get_or-set_other, same_lists}
use Rattle.std.proofs.lemmas.List.{get_or_default, take_more}
use Rattle.std.proofs.lemmas.List.Folds.{list_any-append}
use Rattle.std.proofs.lemmas.List.FromFn.{length-map-range_with_len, get_or-map-range_with_len}
use Rattle.std.proofs.lemmas.List.Kept.{IsStrictlyIncreasing-filter, AllPairs-from_increasing}
use Rattle.std.proofs.lemmas.List.Sorted.{All-permutation, list_any-IsPermutation}
use Rattle.std.proofs.lemmas.Map.Keys.{IsDistinct-IsPermutation, IsStrictlyIncreasing-from_distinct}
use Rattle.std.proofs.lemmas.Map.Made.{IsDistinct-from_AllPairs}
use Rattle.admit_core.specs.Lists.{is_among}
use Rattle.admit_core.specs.declared.ranking.CallOrder.{CallOrder}
use Rattle.admit_core.proofs.Plain.{nat_eq_sym, same_test}
use Rattle.admit_core.proofs.Tests.{Ascends, among-map, same_members}
use Rattle.day_state.proofs.Ascending.{range_rises}
use Rattle.linked_demand.proofs.CalledRows.{among_itself}
use Rattle.linked_demand.proofs.HousedRows.{filter_among}
use Rattle.markets.proofs.Firsts.{among_range, range_has}
use Rattle.markets.specs.Walks.{AreCalled, AreNoted, IsWalk}
use Rattle.markets.specs.declared.calling.Walk.{Walk}
use Rattle.markets.proofs.Called.{from_map}

-- what passes of a list stands at the places that pass
filter_of : (t : ℕ → Bool) (f : ℕ → ℕ) (ks : List ℕ) → filter t (map f ks) ≡ map f (filter (λ k. t (f k)) ks)
filter_of t f [] = refl
filter_of t f (k ∷ ks) =
    elim (cases_Bool (t (f k))) [
      | inl passes ↦ rw passes (ap (λ (ys : List ℕ). f k ∷ ys) (filter_of t f ks))
      | inr fails ↦ rw fails (filter_of t f ks)
    ]

by_place : (xs : List ℕ) → xs ≡ map (λ i. get_or xs i 0) (range_with_len 0 (length xs))
by_place xs =
    let f : ℕ → ℕ = λ i. get_or xs i 0 in
    let long = length-map-range_with_len f 0 (length xs) in
    same_lists xs (map f (range_with_len 0 (length xs))) (sym long) (λ k d lt.
    get_or_same xs k d lt ∙ sym (get_or-map-range_with_len f 0 (length xs) k k d lt (omega arith)))
  where
    get_or_same : (ys : List ℕ) (k d : ℕ) → k < length ys → get_or ys k d ≡ get_or ys k 0
    get_or_same [] k d lt = absurd (omega arith)
    get_or_same (y ∷ ys) zero d lt = refl
    get_or_same (y ∷ ys) (suc k) d lt = get_or_same ys k d (omega arith)

-- two strictly rising lists with the same members
same_rising : (xs ys : List ℕ) → IsStrictlyIncreasing xs → IsStrictlyIncreasing ys
    → ((n : ℕ) → is_among n xs ≡ is_among n ys)
    → xs ≡ ys
same_rising xs ys xs_rise ys_rise same = same_members xs ys (ascends xs xs_rise) (ascends ys ys_rise) same
  where
    above : (n : ℕ) (ms : List ℕ) → ((i : ℕ) → i < length ms → n < get_or ms i 0) → AllByRecursion (λ m. n < m) ms
    above n [] all = tt
    above n (m ∷ ms) all = (all 0 (omega arith), above n ms (λ i lt. all (suc i) (omega arith)))

    ascends : (ns : List ℕ) → IsStrictlyIncreasing ns → Ascends ns
    ascends [] rises = tt
    ascends (n ∷ ns) rises = (
      above n ns (λ i lt. AllPairs-from_increasing (n ∷ ns) rises 0 (suc i) 0 (omega arith) (omega arith)),
      ascends ns
          (λ k lt. AllPairs-from_increasing (n ∷ ns) rises (suc k) (suc (k + 1)) 0 (omega arith) (omega arith)),
    )

-- the places noted so far
pub record AreNotedTo (i : ℕ) (numbers places : List ℕ) : Type 0 where
  pub each :
      (x : ℕ) → x < length places → is_among x (take i numbers) ≡ true
      → (get_or places x 0 < length numbers) × (get_or numbers (get_or places x 0) 0 ≡ x)

pub noted_none : (numbers places : List ℕ) → AreNotedTo 0 numbers places
noted_none numbers places = record { each = λ x lt t. absurd (false≢true t) }

pub last_among : (x i : ℕ) (ns : List ℕ) → i < length ns → (x ≡ get_or ns i 0 → ⊥) → is_among x (take (i + 1) ns) ≡ true
    → is_among x (take i ns) ≡ true
last_among x i ns lt other t =
    let both = sym (ap (is_among x) (take_more ns i 0 lt) ∙ list_any-append (nat_eq x) (take i ns) (get_or ns i 0 ∷ []))
    ∙ t in
    elim (or_cases (is_among x (take i ns)) (is_among x (get_or ns i 0 ∷ [])) both) [
      | inl before ↦ before
      | inr here ↦
          elim (or_cases (nat_eq x (get_or ns i 0)) false here) [
            | inl same ↦ absurd (other (eqb-true x (get_or ns i 0) same))
            | inr none ↦ absurd (false≢true none)
          ]
    ]

-- one more place
pub noted_here : (i : ℕ) (numbers places : List ℕ) → i < length numbers → get_or numbers i 0 < length places
    → AreNotedTo i numbers places → AreNotedTo (i + 1) numbers (set places (get_or numbers i 0) i)
noted_here i numbers places lt within are = record {
  each = λ x x_lt t.
      let n : ℕ = get_or numbers i 0 in
      elim (cases_eq x n) [
        | inl same ↦
            let here : get_or (set places n i) x 0 ≡ i =
            ap (λ (k : ℕ). get_or (set places n i) k 0) same ∙ get_or-set_same places n i 0 within in
            (omega (arith, here, lt), ap (λ (k : ℕ). get_or numbers k 0) here ∙ sym same)
        | inr other ↦
            let there : get_or (set places n i) x 0 ≡ get_or places x 0 = get_or-set_other places n x i 0 other in
            let before = are.each x (omega (arith, x_lt, length-set places n i)) (last_among x i numbers lt other t) in
            (omega (arith, there, before.0), ap (λ (k : ℕ). get_or numbers k 0) there ∙ before.1)
      ];
}

-- one who has no place isn't asked
pub noted_past : (i : ℕ) (numbers places : List ℕ) → i < length numbers → length places ≤ get_or numbers i 0
    → AreNotedTo i numbers places → AreNotedTo (i + 1) numbers places
noted_past i numbers places lt past are = record {
  each = λ x x_lt t. are.each x x_lt (last_among x i numbers lt (λ same. omega (arith, same, past, x_lt)) t);
}

module _ (numbers places listers : List ℕ) (noted : AreNoted numbers places)
    (are : AreCalled numbers places listers) where
  at : (x : ℕ) → is_among x listers ≡ true
      → (get_or places x 0 < length numbers) × (get_or numbers (get_or places x 0) 0 ≡ x)
  at x t = noted x (are.within x t) (are.there x t)

  -- each has a place, at which a number stands
  pub have_places : All (λ x. x < length places) listers
  have_places = λ k d lt. subst (λ (x : ℕ). x < length places) (get_or_default listers k 0 d lt)
      (are.within (get_or listers k 0) (among_itself listers k lt))

  pub are_places : (found : List ℕ) → IsPermutation (map (λ x. get_or places x 0) listers) found
      → All (λ i. i < length numbers) found
  are_places found moved =
      let key : ℕ → ℕ = λ x. get_or places x 0 in
      All-permutation (λ (i : ℕ). i < length numbers) (map key listers) found moved
      (λ k d lt.
      let k_in : k < length listers = omega (arith, lt, length-map listers key) in
      subst (λ (i : ℕ). i < length numbers) (sym (get_or-map key listers k 0 d k_in))
      (at (get_or listers k 0) (among_itself listers k k_in)).0)

  -- those at the places that pass
  abbrev passes : ℕ → Bool
  passes i = is_among (get_or numbers i 0) listers

  abbrev those : List ℕ
  those = filter passes (range_with_len 0 (length numbers))

  keys_apart : IsDistinct nat_eq (map (λ x. get_or places x 0) listers)
  keys_apart =
      let key : ℕ → ℕ = λ x. get_or places x 0 in
      IsDistinct-from_AllPairs Decides-eqb (map key listers) (λ i j e i_lt j_lt same.
      let long : length (map key listers) ≡ length listers = length-map listers key in
      let i_in : i < length listers = omega (arith, i_lt, j_lt, long) in
      let j_in : j < length listers = omega (arith, j_lt, long) in
      let x : ℕ = get_or listers i 0 in
      let y : ℕ = get_or listers j 0 in
      let keys : key x ≡ key y = sym (get_or-map key listers i 0 e i_in) ∙ same ∙ get_or-map key listers j 0 e j_in in
      let one : x ≡ y = sym (at x (among_itself listers i i_in)).1 ∙ ap (λ (k : ℕ). get_or numbers k 0) keys
      ∙ (at y (among_itself listers j j_in)).1 in
      let below : x < y = AllPairs-from_increasing listers are.rises i j 0 i_lt j_in in
      omega (arith, one, below))

  members : (q : ℕ) → is_among q (map (λ x. get_or places x 0) listers) ≡ is_among q those
  members q =
      let key : ℕ → ℕ = λ x. get_or places x 0 in
      let n : ℕ = length numbers in
      let range : List ℕ = range_with_len 0 n in
      same_test (is_among q (map key listers)) (is_among q those)
      (λ t.
      let (x, (among, is)) = from_map key q listers t in
      let there = at x among in
      let q_lt : q < n = omega (arith, is, there.0) in
      let same : get_or numbers q 0 ≡ x = ap (λ (k : ℕ). get_or numbers k 0) is ∙ there.1 in
      filter_among passes q range
      ∙ and_from (is_among q range) (passes q) (range_has q 0 n (omega arith) (omega (arith, q_lt)))
      (ap (λ (k : ℕ). is_among k listers) same ∙ among))
      (λ t.
      let both = and_parts (is_among q range) (passes q) (sym (filter_among passes q range) ∙ t) in
      let within = among_range q 0 n both.0 in
      let x : ℕ = get_or numbers q 0 in
      let there = at x both.1 in
      let one : key x ≡ q = are.once (key x) q there.0 (omega (arith, within.1)) there.1
      (ap (λ (k : ℕ). is_among k listers) there.1 ∙ both.1) in
      ap (λ (k : ℕ). is_among k (map key listers)) (sym one) ∙ among-map key x listers both.1)

  pub called_are : (found : List ℕ) → IsPermutation (map (λ x. get_or places x 0) listers) found
      → IsNonDecreasing found
      → map (λ i. get_or numbers i 0) found ≡ filter (λ x. is_among x listers) numbers
  called_are found moved up =
      let key : ℕ → ℕ = λ x. get_or places x 0 in
      let value : ℕ → ℕ = λ i. get_or numbers i 0 in
      let range : List ℕ = range_with_len 0 (length numbers) in
      let apart : IsDistinct nat_eq found = IsDistinct-IsPermutation nat_eq nat_eq_sym (map key listers) found moved
      keys_apart in
      let same : found ≡ those = same_rising found those
      (IsStrictlyIncreasing-from_distinct found up apart)
      (IsStrictlyIncreasing-filter passes range (range_rises 0 (length numbers)))
      (λ q. sym (list_any-IsPermutation (nat_eq q) (map key listers) found moved) ∙ members q) in
      ap (map value) same ∙ sym (filter_of (λ x. is_among x listers) value range)
      ∙ ap (filter (λ x. is_among x listers)) (sym (by_place numbers))

-- a walk that has not begun
pub walk_begun : (names : List ℕ) (orders : List CallOrder) (w : Walk) → w.group ≡ None → w.numbers.items ≡ []
    → length w.places.items ≡ length names
    → IsWalk names orders w
walk_begun names orders w none empty long = record {
  one_each = long;
  walked = λ g some. absurd (false≢true (ap is_some (sym none ∙ some)));
  noted = λ x lt t. absurd (false≢true (sym (ap (is_among x) empty) ∙ t));
}

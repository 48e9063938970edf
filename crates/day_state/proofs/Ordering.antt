-- Places put in order by a key: those of one key stand together, ascending.
use Rattle.std.proofs.Common.{ℕ, ◌+◌, ◌-◌, ◌≤◌, ◌<◌, ◌≡◌, Bool, true, false, not, ◌&&◌, List, [], ◌∷◌, ◌++◌, length}
use Rattle.std.proofs.Common.{get_or, take, drop, inl, inr, refl, sym, ◌∙◌, ap, arith, filter, zero, suc, leb, ltb}
use Rattle.std.specs.Prelude.{slice_range, ◌==◌, All}
use Rattle.std.specs.List.{list_any, range_with_len}
use Rattle.std.specs.List.Sorted.{IsPermutation, IsStableByKey, IsPartitionPoint}
use Rattle.std.specs.Ordering.{nat_cmp, is_lt}
use Rattle.std.proofs.lemmas.Bool.{cases_Bool, cases_lt, both_ways, cases_order, or_parts, eqb-true, eq-eqb, ne_eqb}
use Rattle.std.proofs.lemmas.Bool.{lt-ltb, le-ltb, ltb-true, ltb-false, leb-true, leb-false, le-leb}
use Rattle.std.proofs.lemmas.List.{append-nil, length-take, length-drop, get_or-take, get_or-drop, take-append-drop}
use Rattle.std.proofs.lemmas.List.{map-id}
use Rattle.std.proofs.lemmas.List.Elements.{filter-append}
use Rattle.std.proofs.lemmas.List.Folds.{Any-from_list_any, drop_split}
use Rattle.std.proofs.lemmas.List.FromFn.{map-range_with_len_more}
use Rattle.std.proofs.lemmas.List.Sorted.{All-permutation}
use Rattle.admit_core.proofs.Plain.{filter_same, filter_none}

pub filter_all : {X : Type 0} (p : X → Bool) (xs : List X) → All (λ x. p x ≡ true) xs → filter p xs ≡ xs
filter_all p [] all = refl
filter_all p (x ∷ xs) all = rw (all 0 x (omega arith)) (ap (λ l. x ∷ l)
    (filter_all p xs (λ k d lt. all (suc k) d (omega arith))))

pub none_found : {X : Type 0} (p : X → Bool) (xs : List X) → list_any p xs ≡ false → All (λ x. p x ≡ false) xs
none_found p [] e k d lt = absurd (omega arith)
none_found p (x ∷ xs) e zero d lt = (or_parts (p x) (list_any p xs) e).0
none_found p (x ∷ xs) e (suc k) d lt = none_found p xs (or_parts (p x) (list_any p xs) e).1 k d (omega arith)

tie_is : (a b : ℕ) → (not (is_lt (nat_cmp a b)) && not (is_lt (nat_cmp b a))) ≡ (b == a)
tie_is a b =
    elim (cases_order a b) [
      | inl same ↦ rw (← same, le-ltb a a (omega arith), eq-eqb a a refl) refl
      | inr other ↦ elim other [
        | inl below ↦ rw (lt-ltb a b below, ne_eqb b a (λ e. omega arith)) refl
        | inr above ↦ rw (
          le-ltb a b (omega arith),
          lt-ltb b a above,
          ne_eqb a b (λ e. omega arith),
          ne_eqb b a
              (λ e. omega arith),
        ) refl
      ]
    ]

tie_with : (a c b : ℕ) → a ≡ c → (b == c) ≡ (not (is_lt (nat_cmp a b)) && not (is_lt (nat_cmp b a)))
tie_with a c b same = rw (← same) (sym (tie_is a b))

-- what a stable sort by a key leaves of one key
pub stable_own : {X : Type 0} (key : X → ℕ) (xs ys : List X) → IsPermutation xs ys → IsStableByKey key nat_cmp xs ys
    → (c : ℕ)
    → filter (λ x. key x == c) ys ≡ filter (λ x. key x == c) xs
stable_own {X} key xs ys moved stable c =
    let p = λ (x : X). key x == c in
    elim (cases_Bool (list_any p xs)) [
      | inl found ↦
          let (k, x, within, at, passes) = Any-from_list_any p xs found in
          let same = eqb-true (key x) c passes in
          let tie = λ (y : X). not (is_lt (nat_cmp (key x) (key y))) && not (is_lt (nat_cmp (key y) (key x))) in
          let by : (y : X) → p y ≡ tie y = λ y. tie_with (key x) c (key y) same in
          filter_same p tie by ys ∙ stable x ∙ sym (filter_same p tie by xs)
      | inr none ↦
          let all = none_found p xs none in
          filter_none p ys (All-permutation (λ x. p x ≡ false) xs ys moved all) ∙ sym (filter_none p xs all)
    ]

-- one more place
pub range_more : (a n j : ℕ) → a + n ≡ j → range_with_len a (n + 1) ≡ range_with_len a n ++ j ∷ []
range_more a n j e = sym (map-id (range_with_len a (n + 1))) ∙ map-range_with_len_more (λ x. x) a n j e
    ∙ ap (λ (l : List ℕ). l ++ j ∷ []) (map-id (range_with_len a n))

below_not : (a c : ℕ) → ltb a c ≡ true → (a == c) ≡ false
below_not a c t = ne_eqb a c (λ e. omega (arith, ltb-true a c t))

above_not : (a c : ℕ) → leb a c ≡ false → (a == c) ≡ false
above_not a c t = ne_eqb a c (λ e. omega (arith, leb-false a c t))

between_is : (a c : ℕ) → ltb a c ≡ false → leb a c ≡ true → (a == c) ≡ true
between_is a c l u = eq-eqb a c (omega (arith, ltb-false a c l, leb-true a c u))

lt_le : (a c : ℕ) → ltb a c ≡ true → leb a c ≡ true
lt_le a c t = le-leb a c (omega (arith, ltb-true a c t))

-- the first place that is not below c is not behind the first that is above it
pub between_order : {X : Type 0} (key : X → ℕ) (xs : List X) (c from to : ℕ) → from ≤ length xs
    → IsPartitionPoint (λ x. ltb (key x) c ≡ true) (λ x. ltb (key x) c ≡ false) xs from
    → IsPartitionPoint (λ x. leb (key x) c ≡ true) (λ x. leb (key x) c ≡ false) xs to
    → from ≤ to
between_order key [] c from to from_in lower upper = omega (arith, from_in)
between_order {X} key (x ∷ xs) c from to from_in lower upper =
    elim (cases_lt to from) [
      | inl less ↦
          let k = key (get_or (x ∷ xs) to x) in
          absurd (both_ways (leb k c) (upper.1 to x (omega arith) (omega arith))
          (lt_le k c (lower.0 to x (omega arith) less)))
      | inr more ↦ more
    ]

-- between the first place that is not below c and the first that is above c stand those of c
pub between : {X : Type 0} (key : X → ℕ) (xs : List X) (c from to : ℕ) → from ≤ length xs → to ≤ length xs
    → IsPartitionPoint (λ x. ltb (key x) c ≡ true) (λ x. ltb (key x) c ≡ false) xs from
    → IsPartitionPoint (λ x. leb (key x) c ≡ true) (λ x. leb (key x) c ≡ false) xs to
    → (from ≤ to) × (slice_range xs from to ≡ filter (λ x. key x == c) xs)
between {X} key xs c from to from_in to_in lower upper =
    let p = λ (x : X). key x == c in
    let le = between_order key xs c from to from_in lower upper in
    let front : filter p (take from xs) ≡ [] = filter_none p (take from xs) (λ k d lt.
    let k_in : k < from = omega (arith, length-take from xs) in
    rw (get_or-take from xs k d k_in) (below_not _ _ (lower.0 k d (omega arith) k_in))) in
    let middle : filter p (slice_range xs from to) ≡ slice_range xs from to =
    filter_all p (slice_range xs from to) (λ k d lt.
    let k_in : k < to - from = omega (arith, length-take (to - from) (drop from xs)) in
    rw (get_or-take (to - from) (drop from xs) k d k_in, get_or-drop from xs k d)
    (between_is _ _ (lower.1 (from + k) d (omega arith) (omega arith))
    (upper.0 (from + k) d (omega arith) (omega arith)))) in
    let back : filter p (drop to xs) ≡ [] = filter_none p (drop to xs) (λ k d lt.
    rw (get_or-drop to xs k d) (above_not _ _ (upper.1 (to + k) d (omega arith) (omega (arith, length-drop to xs))))) in
    let whole : xs ≡ take from xs ++ (slice_range xs from to ++ drop to xs) =
    sym (take-append-drop from xs) ∙ ap (λ (l : List X). take from xs ++ l) (drop_split xs from to le) in
    let parts : filter p xs ≡ slice_range xs from to =
    ap (filter p) whole ∙ filter-append p (take from xs) (slice_range xs from to ++ drop to xs)
    ∙ rw (front, filter-append p (slice_range xs from to) (drop to xs), middle, back)
    (append-nil (slice_range xs from to)) in
    (le, sym parts)

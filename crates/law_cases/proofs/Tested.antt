-- Facts of small lists by a test that computes.
use Rattle.std.proofs.Common.{ℕ, zero, suc, ◌+◌, ◌≤◌, ◌<◌, ◌≡◌, Bool, true, false, not, ◌&&◌, List, [], ◌∷◌, inl, inr}
use Rattle.std.proofs.Common.{refl, arith, nat_eq, nat_lt}
use Rattle.std.specs.Prelude.{nat_le, slice_index}
use Rattle.std.specs.List.{All, AllPairs, IsDistinct, list_all}
use Rattle.std.specs.List.Sorted.{IsNonDecreasing, IsStrictlyIncreasing}
use Rattle.std.proofs.lemmas.Bool.{and_parts, cases_eq, false≢true, leb-true, ltb-true, not-true}
use Rattle.std.proofs.lemmas.List.Elements.{All-cons, All-nil}
use Rattle.std.proofs.lemmas.List.Kept.{AllPairs-cons}
use Rattle.std.proofs.lemmas.Map.Keys.{IsDistinct-from_apart}
use Rattle.admit_core.specs.Falls.{IsAtMost}

-- each element by a test
pub all_by : {X : Type 0} (P : X → Type 0) (test : X → Bool) → ((x : X) → test x ≡ true → P x) → (xs : List X)
    → list_all test xs ≡ true → All P xs
all_by P test sound [] t = All-nil P
all_by P test sound (x ∷ xs) t =
    let parts = and_parts (test x) (list_all test xs) t in
    All-cons P x xs (sound x parts.0) (all_by P test sound xs parts.1)

-- each pair by a test
abbrev pub all_pairs : {X : Type 0} → (X → X → Bool) → List X → Bool
all_pairs test [] = true
all_pairs test (x ∷ xs) = list_all (test x) xs && all_pairs test xs

pub pairs_by : {X : Type 0} (R : X → X → Type 0) (test : X → X → Bool) → ((x y : X) → test x y ≡ true → R x y)
    → (xs : List X) → all_pairs test xs ≡ true → AllPairs R xs
pairs_by R test sound [] t = λ i j d i_lt j_lt. absurd (omega arith)
pairs_by R test sound (x ∷ xs) t =
    let parts = and_parts (list_all (test x) xs) (all_pairs test xs) t in
    AllPairs-cons R x xs (all_by (R x) (test x) (sound x) xs parts.0) (pairs_by R test sound xs parts.1)

-- numbers that rise, that do not fall, and that differ
pub rising_by : (ns : List ℕ) → all_pairs nat_lt ns ≡ true → IsStrictlyIncreasing ns
rising_by ns t k lt = pairs_by (λ (x y : ℕ). x < y) nat_lt (λ x y. ltb-true x y) ns t k (k + 1) 0 (omega arith) lt

pub level_by : (ns : List ℕ) → all_pairs nat_le ns ≡ true → IsNonDecreasing ns
level_by ns t i j d le lt =
    elim (cases_eq i j) [
      | inl same ↦ rw same (omega arith)
      | inr other ↦ pairs_by (λ (x y : ℕ). x ≤ y) nat_le (λ x y. leb-true x y) ns t i j d (omega (arith, le, other)) lt
    ]

abbrev pub differ : ℕ → ℕ → Bool
differ x y = not (nat_eq x y)

pub distinct_by : (ns : List ℕ) → all_pairs differ ns ≡ true → IsDistinct nat_eq ns
distinct_by ns t = IsDistinct-from_apart nat_eq ns
    (pairs_by (λ (x y : ℕ). nat_eq x y ≡ false) differ (λ x y. not-true (nat_eq x y)) ns t)

-- bars at most others
abbrev pub at_most : List ℕ → List ℕ → Bool
at_most [] [] = true
at_most [] (y ∷ ys) = false
at_most (x ∷ xs) [] = false
at_most (x ∷ xs) (y ∷ ys) = nat_le x y && at_most xs ys

pub at_most_by : (lower upper : List ℕ) → at_most lower upper ≡ true → IsAtMost lower upper
at_most_by [] [] t = record { as_many = refl; each = λ i. omega arith }
at_most_by [] (y ∷ ys) t = absurd (false≢true t)
at_most_by (x ∷ xs) [] t = absurd (false≢true t)
at_most_by (x ∷ xs) (y ∷ ys) t =
    let parts = and_parts (nat_le x y) (at_most xs ys) t in
    let rest = at_most_by xs ys parts.1 in
    record { as_many = omega (arith, rest.as_many); each = each rest } where
      each : IsAtMost xs ys → (i : ℕ) → slice_index (x ∷ xs) i ≤ slice_index (y ∷ ys) i
      each rest zero = leb-true x y (and_parts (nat_le x y) (at_most xs ys) t).0
      each rest (suc i) = rest.each i

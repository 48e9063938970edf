-- The first of a list that passes a test, and the list without it.
use Rattle.std.proofs.Common.{ℕ, zero, suc, ◌+◌, ◌≡◌, Bool, List, [], ◌∷◌, length, drop, map, inl, inr, refl, ap, arith}
use Rattle.std.proofs.Common.{Some, None, nat_cmp, zero-add}
use Rattle.std.specs.Prelude.{find, slice_get}
use Rattle.std.specs.List.{position_or_len, AllByRecursion}
use Rattle.std.specs.List.Sorted.{IsStrictlyIncreasing, IsStrictlySortedBy}
use Rattle.std.proofs.Math.Numerals.{one-add}
use Rattle.std.proofs.Math.Nat.{suc-add}
use Rattle.std.proofs.lemmas.Bool.{cases_Bool}
use Rattle.std.proofs.lemmas.List.{drop-drop}
use Rattle.std.proofs.lemmas.Map.Keys.{IsStrictlyIncreasing-from_sorted, sorted_from_strictly_increasing}
use Rattle.call_order.specs.Kinds.{without_first}

-- the first from the first place on stands there
pub find-drop-position : {X : Type 0} (test : X → Bool) (xs : List X)
    → find test (drop (position_or_len test xs) xs) ≡ slice_get xs (position_or_len test xs)
find-drop-position test [] = refl
find-drop-position test (x ∷ xs) =
    elim (cases_Bool (test x)) [
      | inl passes ↦
          let at : position_or_len test (x ∷ xs) ≡ 0 = rw passes in
          rw at (rw passes)
      | inr fails ↦
          let at : position_or_len test (x ∷ xs) ≡ suc (position_or_len test xs) = rw fails (one-add _) in
          rw at (find-drop-position test xs)
    ]

slice_get-drop : {X : Type 0} (n k : ℕ) (xs : List X) → slice_get (drop n xs) k ≡ slice_get xs (n + k)
slice_get-drop zero k xs = rw zero-add
slice_get-drop (suc n) k [] = refl
slice_get-drop (suc n) k (x ∷ xs) = rw suc-add (slice_get-drop n k xs)

-- the same from a place on
pub find-drop-next : {X : Type 0} (test : X → Bool) (xs : List X) (n : ℕ)
    → find test (drop (n + position_or_len test (drop n xs)) xs) ≡ slice_get xs (n + position_or_len test (drop n xs))
find-drop-next test xs n =
    let k = position_or_len test (drop n xs) in
    rw (← drop-drop k n xs, ← slice_get-drop n k xs) (find-drop-position test (drop n xs))

pub without_first-none : {X : Type 0} (test : X → Bool) (xs : List X) → find test xs ≡ None → without_first test xs ≡ xs
without_first-none test [] e = refl
without_first-none test (x ∷ xs) e =
    elim (cases_Bool (test x)) [
      | inl passes ↦ let found = rw passes at e in (cc)
      | inr fails ↦ rw fails (ap (λ ys. x ∷ ys) (without_first-none test xs (rw fails at e)))
    ]

pub length-without_first : {X : Type 0} (test : X → Bool) (xs : List X) (x : X) → find test xs ≡ Some x
    → length (without_first test xs) + 1 ≡ length xs
length-without_first test [] x e = absurd (cc)
length-without_first test (y ∷ ys) x e =
    elim (cases_Bool (test y)) [
      | inl passes ↦ rw passes (omega arith)
      | inr fails ↦ rw fails (omega (arith, length-without_first test ys x (rw fails at e)))
    ]

all_without : {X : Type 0} (P : ℕ → Type 0) (key : X → ℕ) (test : X → Bool) (xs : List X)
    → AllByRecursion P (map key xs) → AllByRecursion P (map key (without_first test xs))
all_without P key test [] all = tt
all_without P key test (x ∷ xs) all =
    elim (cases_Bool (test x)) [
      | inl passes ↦ rw passes all.1
      | inr fails ↦ rw fails (all.0, all_without P key test xs all.1)
    ]

sorted_without : {X : Type 0} (key : X → ℕ) (test : X → Bool) (xs : List X) → IsStrictlySortedBy nat_cmp (map key xs)
    → IsStrictlySortedBy nat_cmp (map key (without_first test xs))
unfolding IsStrictlySortedBy
sorted_without key test [] sorted = tt
sorted_without key test (x ∷ xs) sorted =
    elim (cases_Bool (test x)) [
      | inl passes ↦ rw passes sorted.1
      | inr fails ↦ rw fails (all_without _ key test xs sorted.0, sorted_without key test xs sorted.1)
    ]

-- without the first that passes a list still rises
pub rises_without_first : {X : Type 0} (key : X → ℕ) (test : X → Bool) (xs : List X) → IsStrictlyIncreasing (map key xs)
    → IsStrictlyIncreasing (map key (without_first test xs))
rises_without_first key test xs rises =
    IsStrictlyIncreasing-from_sorted _ (sorted_without key test xs (sorted_from_strictly_increasing _ rises))

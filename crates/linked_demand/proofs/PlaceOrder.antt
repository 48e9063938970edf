-- Items of which those of one key ascend.
use Rattle.std.proofs.Common.{ℕ, ◌+◌, ◌<◌, ◌≡◌, Bool, true, List, [], ◌∷◌, map, inl, inr, refl, sym, ap, arith, filter}
use Rattle.std.proofs.Common.{zero, suc, nat_eq, Some, unwrap_or, subst}
use Rattle.std.specs.Prelude.{slice_get}
use Rattle.std.specs.List.{range_with_len, AllByRecursion}
use Rattle.std.proofs.lemmas.Bool.{cases_Bool, eq-eqb, both_ways}
use Rattle.std.proofs.lemmas.Option.{slice_get_within}
use Rattle.admit_core.proofs.Tests.{Ascends}
use Rattle.admit_core.proofs.Plain.{all-filter}

-- each item stands at a lower place than the later ones of its key
abbrev pub InPlaceOrder : {X : Type 0} → (X → ℕ) → (X → ℕ) → List X → Type 0
InPlaceOrder key place [] = Unit {0}
InPlaceOrder key place (x ∷ xs) = AllByRecursion (λ y. key x ≡ key y → place x < place y) xs × InPlaceOrder key place xs

-- the later ones that pass a test are above, where their places are
above_later : {X : Type 0} (key place : X → ℕ) (t : X → Bool) (x : X) (xs : List X)
    → ((y : X) → key x ≡ key y → t y ≡ true)
    → AllByRecursion (λ m. place x < m) (map place (filter t xs))
    → AllByRecursion (λ y. key x ≡ key y → place x < place y) xs
above_later key place t x [] own all = tt
above_later key place t x (y ∷ ys) own all =
    elim (cases_Bool (t y)) [
      | inl kept ↦ let both = rw kept at all in (λ same. both.0, above_later key place t x ys own both.1)
      | inr dropped ↦ (
        λ same. absurd (both_ways (t y) dropped (own y same)),
        above_later key place t x ys
            own (rw dropped at all),
      )
    ]

pub ascends-filter : (t : ℕ → Bool) (ks : List ℕ) → Ascends ks → Ascends (filter t ks)
ascends-filter t [] rises = tt
ascends-filter t (k ∷ ks) rises =
    elim (cases_Bool (t k)) [
      | inl kept ↦ rw kept (all-filter (λ m. k < m) t ks rises.0, ascends-filter t ks rises.1)
      | inr dropped ↦ rw dropped (ascends-filter t ks rises.1)
    ]

range_above : (k a n : ℕ) → k < a → AllByRecursion (λ m. k < m) (range_with_len a n)
range_above k a zero lt = tt
range_above k a (suc n) lt = (lt, range_above k (a + 1) n (omega arith))

pub ascends-range : (a n : ℕ) → Ascends (range_with_len a n)
ascends-range a zero = tt
ascends-range a (suc n) = (range_above a (a + 1) n (omega arith), ascends-range (a + 1) n)

-- where the places of each key ascend
pub in_order_from : {X : Type 0} (key place : X → ℕ) (xs : List X)
    → ((r : ℕ) → Ascends (map place (filter (λ x. nat_eq (key x) r) xs))) → InPlaceOrder key place xs
in_order_from key place [] rises = tt
in_order_from key place (x ∷ xs) rises =
    let own = rw (eq-eqb (key x) (key x) refl) at (rises (key x)) in (
      above_later key place (λ y. nat_eq (key y) (key x)) x xs (λ y same. eq-eqb (key y) (key x) (sym same)) own.0,
      in_order_from key place xs (λ r. elim (cases_Bool (nat_eq (key x) r)) [
        | inl here ↦ (rw here at (rises r)).1
        | inr other ↦ rw other at (rises r)
      ]),
    )

all_read : {X : Type 0} (P : X → Type 0) (xs : List X) → AllByRecursion P xs → (j : ℕ) (y : X) → slice_get xs j ≡ Some y
    → P y
all_read P [] all j y at = absurd (omega (arith, slice_get_within [] j y at))
all_read P (x ∷ xs) all zero y at = subst P (ap (λ o. unwrap_or o x) at) all.0
all_read P (x ∷ xs) all (suc j) y at = all_read P xs all.1 j y at

pub in_place_order : {X : Type 0} (key place : X → ℕ) (xs : List X) → InPlaceOrder key place xs
    → (i j : ℕ) (x y : X) → i < j → slice_get xs i ≡ Some x → slice_get xs j ≡ Some y
    → key x ≡ key y → place x < place y
in_place_order key place [] order i j x y lt at_i at_j same = absurd (omega (arith, slice_get_within [] j y at_j))
in_place_order key place (z ∷ xs) order i zero x y lt at_i at_j same = absurd (omega arith)
in_place_order {X} key place (z ∷ xs) order zero (suc j) x y lt at_i at_j same =
    let P = λ (u : X). key u ≡ key y → place u < place y in
    subst P (ap (λ o. unwrap_or o z) at_i) (all_read (λ u. key z ≡ key u → place z < place u) xs order.0 j y at_j) same
in_place_order key place (z ∷ xs) order (suc i) (suc j) x y lt at_i at_j same = in_place_order key place xs
    order.1 i j x y (omega arith) at_i at_j same

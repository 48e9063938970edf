-- Numbers of which each is greater than the one before it.
use Rattle.std.proofs.Common.{◌≡◌, ℕ, ◌+◌, ◌<◌, suc, Bool, true, false, nat_eq, nat_le, nat_lt, List, [], ◌∷◌, Less}
use Rattle.std.proofs.Common.{get_or}
use Rattle.std.proofs.Common.{length, map, refl, subst, sym, arith}
use Rattle.std.specs.List.{IsDistinct, IsAllAdjacentAnswer}
use Rattle.std.specs.List.Sorted.{IsStrictlySortedBy}
use Rattle.std.specs.Ordering.{nat_cmp}
use Rattle.std.proofs.lemmas.Bool.{false≢true}
use Rattle.std.proofs.lemmas.List.{get_or-map}
use Rattle.std.proofs.lemmas.Bool.Decides.{nat_tests}
use Rattle.std.proofs.lemmas.Cmp.{nat_cmp_total}
use Rattle.std.proofs.lemmas.Map.Keys.{IsDistinct-from_apart, sorted_from_all_adjacent, below_from_sorted}
use Rattle.admit_core.specs.Lists.{sorted_by}
use Rattle.dossier_check.specs.RowIds.{Rises}
use Rattle.dossier_check.proofs.Firsts.{length-map-here}

less : (m n : ℕ) → true ≡ nat_lt m n → nat_cmp m n ≡ Less
less m n lt = rw (sym lt) refl

pub differs : (m n : ℕ) → m < n → nat_eq m n ≡ false
differs m n lt = grind (arith, nat_tests)

pub goes_up : (xs : List ℕ) (r : Bool) → IsAllAdjacentAnswer (λ x y b. b ≡ nat_lt x y) xs r → r ≡ true → Rises xs
goes_up xs false below e = absurd (false≢true e)
goes_up xs true below e = λ i j d lt within.
    let sorted : IsStrictlySortedBy nat_cmp xs =
    sorted_from_all_adjacent nat_cmp_total xs 0
    (λ k in'. less (get_or xs k 0) (get_or xs (k + 1) 0) (below k 0 in')) in
    below_from_sorted xs i j d sorted lt within

pub rising : (xs : List ℕ) (r : Bool) → IsAllAdjacentAnswer (λ x y b. b ≡ nat_lt x y) xs r → r ≡ true
    → IsDistinct nat_eq xs
rising xs r below e =
    IsDistinct-from_apart nat_eq xs (λ i j d lt within. differs (get_or xs i d) (get_or xs j d)
    (goes_up xs r below e i j d lt within))

-- the same of elements by a key
pub keys_rise : {X : Type 0} (key : X → ℕ) (xs : List X) (r : Bool)
    → IsAllAdjacentAnswer (λ x y b. b ≡ nat_lt (key x) (key y)) xs r → r ≡ true → IsDistinct nat_eq (map key xs)
keys_rise key xs false below e = absurd (false≢true e)
keys_rise key [] true below e = IsDistinct-from_apart nat_eq [] (λ i j d lt within. absurd (omega arith))
keys_rise key (first ∷ rest) true below e =
    let xs = first ∷ rest in
    rising (map key xs) true (λ k d lt.
    let within : k + 1 < length xs = omega (arith, length-map-here key xs) in
    rw (get_or-map key xs k first d (omega arith), get_or-map key xs (k + 1) first d within) (below k first within))
    refl

-- elements that do not fall by a key are in order by it
pub ordered_by : {X : Type 0} (key : X → ℕ) (xs : List X) (r : Bool)
    → IsAllAdjacentAnswer (λ x y b. b ≡ nat_le (key x) (key y)) xs r → r ≡ true → xs ≡ sorted_by key xs
ordered_by {X} key xs false below e = absurd (false≢true e)
ordered_by {X} key xs true below e = sym (by xs below)
  where
    shift : (k : ℕ) → suc k + 1 ≡ suc (k + 1)
    shift k = omega arith

    by : (ys : List X) → IsAllAdjacentAnswer (λ x y b. b ≡ nat_le (key x) (key y)) ys true → sorted_by key ys ≡ ys
    by [] up = refl
    by (y ∷ []) up = refl
    by (y ∷ z ∷ zs) up =
        let le : nat_le (key y) (key z) ≡ true = sym (up 0 y (omega arith)) in
        let later : sorted_by key (z ∷ zs) ≡ z ∷ zs = by (z ∷ zs) (λ k d lt.
        subst (λ n. true ≡ nat_le (key (get_or (z ∷ zs) k d)) (key (get_or (y ∷ z ∷ zs) n d))) (shift k)
        (up (suc k) d (omega (arith, lt)))) in
        rw (later, le) refl

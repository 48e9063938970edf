-- That no two of a list are the same, by what it is when it is put in order.
use Rattle.std.proofs.Common.{◌≡◌, ◌+◌, Bool, true, false, List, get_or, Ordering, Less, Equal, Greater, refl}
use Rattle.std.proofs.Common.{true≢false}
use Rattle.std.specs.Cmp.{IsTotalOrder}
use Rattle.std.specs.List.{IsDistinct, IsAllAdjacentAnswer}
use Rattle.std.specs.List.Sorted.{IsPermutation}
use Rattle.std.specs.Ordering.{is_lt, eq_by_cmp}
use Rattle.std.proofs.lemmas.Bool.{false≢true}
use Rattle.std.proofs.lemmas.Cmp.{eq_by_cmp_equiv}
use Rattle.std.proofs.lemmas.List.Sorted.{IsPermutation-sym}
use Rattle.std.proofs.lemmas.Map.Keys.{IsDistinct-IsPermutation, IsDistinct-from_sorted, sorted_from_all_adjacent}

less : (o : Ordering) → true ≡ is_lt o → o ≡ Less
less Less e = refl
less Equal e = absurd (true≢false e)
less Greater e = absurd (true≢false e)

module _ {X : Type 0} {cmp : X → X → Ordering} (total : IsTotalOrder cmp) (d : X) where
  -- where each is less than the next, no two are the same
  strictly : (xs : List X) (r : Bool) → IsAllAdjacentAnswer (λ x y b. b ≡ is_lt (cmp x y)) xs r → r ≡ true
      → IsDistinct (eq_by_cmp cmp) xs
  strictly xs false below e = absurd (false≢true e)
  strictly xs true below e =
      IsDistinct-from_sorted cmp xs (sorted_from_all_adjacent total xs d
      (λ k lt. less (cmp (get_or xs k d) (get_or xs (k + 1) d)) (below k d lt)))

  pub apart_in_order : (keys ordered : List X) (r : Bool) → IsPermutation keys ordered
      → IsAllAdjacentAnswer (λ x y b. b ≡ is_lt (cmp x y)) ordered r → r ≡ true
      → IsDistinct (eq_by_cmp cmp) keys
  apart_in_order keys ordered r moved answer e =
      IsDistinct-IsPermutation (eq_by_cmp cmp) (eq_by_cmp_equiv total).symm ordered keys
      (IsPermutation-sym keys ordered moved) (strictly ordered r answer e)

-- Orders put in order where they stand, and met by those who list their programmes.
use Rattle.std.specs.Prelude.{◌≡◌, ℕ, ◌+◌, ◌-◌, ◌<◌, Bool, true, false, ◌&&◌, ◌==◌, List, [], ◌∷◌, length}
use Rattle.std.specs.Prelude.{nat_eq, nat_lt, if◌then◌else◌, slice_get, slice_index, slice_index_or}
use Rattle.std.specs.List.Sorted.{IsNonDecreasing, IsPermutation}
use Rattle.admit_core.specs.Lists.{is_among}
use Rattle.markets.specs.Listers.{naming}
use Rattle.markets.specs.Matchings.{is_at}

-- the same rows, and the first k of them in order
pub record AreInOrder (k : ℕ) (old new : List (List ℕ)) : Type 0 where
  pub as_many : length new ≡ length old
  pub same : (p : ℕ) → p < length old
      → IsPermutation (slice_index_or old p []) (slice_index_or new p [])
  pub rise : (p : ℕ) → p < length old → p < k → IsNonDecreasing (slice_index_or new p [])

-- whether an order begins with these candidates
abbrev pub begins_with : List ℕ → List ℕ → Bool
begins_with [] order = true
begins_with (x ∷ xs) [] = false
begins_with (x ∷ xs) (y ∷ ys) = nat_eq x y && begins_with xs ys

-- how many candidates are met by the front of an order, and one more; 0 where they aren't its front
abbrev pub met : List ℕ → List ℕ → ℕ
met xs order = if begins_with xs order then length xs + 1 else 0

-- that number with one candidate more
abbrev pub met_more : List ℕ → ℕ → ℕ → ℕ
met_more order n x = if (nat_lt 0 n && is_at x (slice_get order (n - 1))) then n + 1 else 0

-- whether the candidates who were met are the whole order
abbrev pub is_met : List ℕ → ℕ → Bool
is_met order n = nat_lt 0 n && (n - 1 == length order)

-- what is noted of each order once the first k lists are gone along
pub record AreMet (lists orders : List (List ℕ)) (k : ℕ) (notes : List ℕ) : Type 0 where
  pub as_many : length notes ≡ length orders
  pub each : (p : ℕ) → p < length orders
      → slice_index notes p ≡ met (naming lists p k) (slice_index_or orders p [])

-- a candidate is met by the orders of these programmes
pub record Meets (orders : List (List ℕ)) (x : ℕ) (list old new : List ℕ) : Type 0 where
  pub as_many : length new ≡ length old
  pub each : (p : ℕ) → p < length old
      → slice_index new p
      ≡ (if is_among p list then met_more (slice_index_or orders p []) (slice_index old p) x
      else slice_index old p)

-- The first candidate who blocks a matching.
use Rattle.std.specs.Prelude.{◌≡◌, ℕ, ◌<◌, List, length, find, nat_lt, max, slice_index, slice_set, Option, Some, None}
use Rattle.std.specs.List.{list_any, range_with_len}
use Rattle.std.specs.Option.{is_some}
use Rattle.stable_market.specs.declared.block.MarketBlock.{MarketBlock}
use Rattle.markets.specs.Markets.{MarketRows, market_position}
use Rattle.markets.specs.Matchings.{IsStable, holders, block_of}

-- the last position at which somebody has a place: it is past k exactly where somebody's is
pub record AreLasts (m : MarketRows) (places : List (Option ℕ)) (lasts : List ℕ) : Type 0 where
  pub one_each : length lasts ≡ length m.orders
  pub each :
      (p k : ℕ)
      → p < length m.orders
      → nat_lt k (slice_index lasts p)
      ≡ list_any (λ y. nat_lt k (market_position m p y)) (holders places p)

-- what is noted of one more candidate: their position, where it is past the one that was noted
abbrev pub noted : MarketRows → ℕ → List ℕ → Option ℕ → List ℕ
noted m x lasts None = lasts
noted m x lasts (Some p) = slice_set lasts p (max (slice_index lasts p) (market_position m p x))

-- the least candidate who blocks with some programme
abbrev pub first_blocking : MarketRows → List (Option ℕ) → Option ℕ
first_blocking m places =
    find (λ x. is_some (block_of m places x)) (range_with_len 0 (length m.lists))

-- none where the matching is stable; else the least candidate who blocks, and the best programme
-- that blocks with them
abbrev pub IsFirstBlock : MarketRows → List (Option ℕ) → Option MarketBlock → Type 0
IsFirstBlock m places None = IsStable m places
IsFirstBlock m places (Some b) =
    (first_blocking m places ≡ Some b.candidate)
    × (block_of m places b.candidate ≡ Some b.programme)

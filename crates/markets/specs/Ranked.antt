-- For each candidate the programmes whose orders have them, and their position in each.
use Rattle.std.specs.Prelude.{◌≡◌, ℕ, ◌+◌, List, length, map, nat_eq, option_map, Option, Some, slice_get, Vec}
use Rattle.std.specs.List.{before_first, find}
use Rattle.std.specs.declared.alloc.Global.{Global}
use Rattle.markets.specs.Markets.{MarketRows, market_position}
use Rattle.markets.specs.Listers.{naming}
use Rattle.markets.specs.declared.ranked.Rank.{Rank}

-- a candidate's rank in the order of a programme, and in that of a market
abbrev pub rank_in : List ℕ → ℕ → ℕ → Rank
rank_in order p x =
    record { programme = p; position = length (before_first (nat_eq x) order) + 1 }

abbrev pub rank_at : MarketRows → ℕ → ℕ → Rank
rank_at m x p = record { programme = p; position = market_position m p x }

-- the position in the order of a programme, of the ranks of one candidate
abbrev pub position_in : List Rank → ℕ → Option ℕ
position_in own p = option_map (λ r. r.position) (find (λ r. nat_eq p r.programme) own)

-- rows with the rank of each candidate in those of the first k orders that have them
pub record AreRanked (m : MarketRows) (k : ℕ) (rows : List (Vec Rank Global)) : Type 0 where
  pub one_each : length rows ≡ length m.lists
  pub each :
      (x : ℕ) (row : Vec Rank Global)
      → slice_get rows x ≡ Some row
      → row.items ≡ map (rank_at m x) (naming m.orders x k)

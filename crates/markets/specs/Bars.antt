-- A market as a system of falling bars, which stand on positions in the programmes' orders.
use Rattle.std.specs.Prelude.{ℕ, ◌+◌, Some, None, Bool, List, length, filter, map, nat_le, find, Option, slice_index}
use Rattle.std.specs.List.{range_with_len}
use Rattle.admit_core.specs.Falls.{FallingSystem}
use Rattle.markets.specs.Markets.{MarketRows, list_of, market_order, market_position, candidate_at}
use Rattle.markets.specs.Matchings.{is_at}

-- a programme is within a candidate's reach where their position is at most its bar
abbrev pub is_within : MarketRows → List ℕ → ℕ → ℕ → Bool
is_within m bars x p = nat_le (market_position m p x) (slice_index bars p)

-- the programme that a candidate prefers among those within reach
abbrev pub best_within : MarketRows → List ℕ → ℕ → Option ℕ
best_within m bars x = find (is_within m bars x) (list_of m x)

-- the positions of the candidates for whom a programme is the best within reach
abbrev pub demanded : MarketRows → List ℕ → ℕ → List ℕ
demanded m bars p =
    filter (λ r. is_at p (best_within m bars (candidate_at m p r)))
    (range_with_len 1 (length (market_order m p)))

-- a programme's ceiling is the number of its candidates, and its seats are free; a rank has its
-- candidate's name
abbrev pub market_system : MarketRows → FallingSystem
market_system m =
    record {
      ceilings = map length m.orders;
      free = m.seats;
      ranks = demanded m;
      name = λ bars p r. candidate_at m p r;
    }

-- the places under bars: each candidate has the best programme within reach
abbrev pub matched_under : MarketRows → List ℕ → List (Option ℕ)
matched_under m bars = map (best_within m bars) (range_with_len 0 (length m.lists))

-- a place as a number: 0 for none, and else one more than that of the programme
abbrev pub place_code : Option ℕ → ℕ
place_code None = 0
place_code (Some p) = p + 1

-- the places under bars, as numbers
abbrev pub place_codes : MarketRows → List ℕ → List ℕ
place_codes m bars = map place_code (matched_under m bars)

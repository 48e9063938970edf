-- What holds of the round of a market.
use Rattle.std.specs.Prelude.{◌≡◌, ℕ, ◌<◌, Bool, List, length, map, filter, Option, slice_index}
use Rattle.std.specs.List.{range_with_len}
use Rattle.std.proofs.Common.{sym, ◌∙◌}
use Rattle.std.proofs.lemmas.List.{length-map}
use Rattle.markets.specs.Markets.{MarketRows, IsMarket, candidate_at}
use Rattle.markets.specs.Matchings.{holders, is_at, place_of}
use Rattle.markets.specs.KeptPositions.{KeepsPositions}
use Rattle.markets.specs.Standing.{AreSeated}
use Rattle.markets.specs.Fillings.{Fill}

-- whether the one who stands at a position of a programme's order has a place in it
abbrev pub is_held : MarketRows → List (Option ℕ) → ℕ → ℕ → Bool
is_held m places p r = is_at p (place_of places (candidate_at m p r))

-- the positions up to one at which this is so
abbrev pub held_to : MarketRows → List (Option ℕ) → ℕ → ℕ → List ℕ
held_to m places p r = filter (is_held m places p) (range_with_len 1 r)

-- how many candidates have a place in each of n programmes
pub record AreCounts (n : ℕ) (places : List (Option ℕ)) (counts : List ℕ) : Type 0 where
  pub one_each : length counts ≡ n
  pub each : (p : ℕ) → p < n → slice_index counts p ≡ length (holders places p)

-- what a round keeps of a market. What its positions keep follows from its rows, and stands here
-- since the `impl` of a system can cite no proof of its own crate
pub record IsRound (m : MarketRows) (bars stands : List ℕ) (places : List (Option ℕ))
    (f : Fill) : Type 0 where
  pub valid : IsMarket m
  pub positions : KeepsPositions m
  pub seated : AreSeated m bars stands places
  pub seats : f.seats ≡ m.seats
  pub counts : AreCounts (length m.orders) places f.counts

pub bar_each : (m : MarketRows) (bars : List ℕ) → length bars ≡ length m.orders
    → length bars ≡ length (map length m.orders)
bar_each m bars each = each ∙ sym (length-map m.orders length)

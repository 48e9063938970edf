-- Nobody gains by handing in another list than the true one.
use Rattle.std.specs.Prelude.{◌≡◌, ◌≢◌, ℕ, false, List, Option, Some, length, nat_lt, IsTrue}
use Rattle.markets.specs.Markets.{MarketRows, IsMarket, list_of, lists_it, market_position}
use Rattle.markets.specs.Matchings.{place_of, prefers, IsStable, IsBestForAll}

-- two markets that differ at most in the list of one candidate: the others list the same, the seats
-- are the same, and each programme ranks alike those who list it in both
pub record DifferAtMostIn (x : ℕ) (m other : MarketRows) : Type 0 where
  pub candidates : length m.lists ≡ length other.lists
  pub programmes : length m.orders ≡ length other.orders
  pub same_seats : m.seats ≡ other.seats
  pub same_lists : (y : ℕ) → y ≢ x → list_of m y ≡ list_of other y
  pub same_ranks :
      (p y z : ℕ)
      → IsTrue (lists_it m p y)
      → IsTrue (lists_it m p z)
      → IsTrue (lists_it other p y)
      → IsTrue (lists_it other p z)
      → nat_lt (market_position m p y) (market_position m p z)
      ≡ nat_lt (market_position other p y) (market_position other p z)

-- whatever list a candidate hands in, no stable matching of that market gives them a programme that
-- they prefer to their place in the best stable matching by the true list
abbrev pub TruthPays : Type 0
TruthPays =
    (m other : MarketRows) (x q : ℕ) (best found : List (Option ℕ))
    → IsMarket m
    → IsMarket other
    → DifferAtMostIn x m other
    → IsStable m best
    → IsBestForAll m best
    → IsStable other found
    → place_of found x ≡ Some q
    → prefers m best x q ≡ false

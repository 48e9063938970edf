-- What a seating keeps of its candidates, and how one of them moves on.
use Rattle.std.specs.Prelude.{◌≡◌, ℕ, ◌+◌, ◌≤◌, ◌<◌, List, length, Option, Some, slice_index, slice_set}
use Rattle.markets.specs.Markets.{MarketRows, list_of}
use Rattle.markets.specs.Matchings.{place_of}
use Rattle.markets.specs.Bars.{best_within}
use Rattle.markets.specs.Fillings.{Fill}
use Rattle.markets.specs.Rounds.{AreCounts}
use Rattle.markets.specs.Standing.{AreBeyond, IsStand}

-- one place for each stand, each in a programme that has seats, and all of them counted
pub record AreTied (stands : List ℕ) (places : List (Option ℕ)) (f : Fill) : Type 0 where
  pub one_place_each : length places ≡ length stands
  pub few : length places ≤ 16000000
  pub within : (x p : ℕ) → place_of places x ≡ Some p → p < length f.seats
  pub counts : AreCounts (length f.seats) places f.counts

-- a candidate has a place in a programme, and the entries of their list up to it are beyond reach
pub record IsLeaving (m : MarketRows) (bars : List ℕ) (x p : ℕ) (stands : List ℕ)
    (places : List (Option ℕ)) : Type 0 where
  pub one_bar_each : length bars ≡ length m.orders
  pub candidate : x < length m.lists
  pub had : place_of places x ≡ Some p
  pub on_list : slice_index stands x < length (list_of m x)
  pub beyond : AreBeyond m bars x (slice_index stands x + 1)

-- they stand at the next entry within reach, and have a place there; nobody else moves
pub record HasMovedOn (m : MarketRows) (bars : List ℕ) (x : ℕ) (stands : List ℕ)
    (places : List (Option ℕ)) (new : List ℕ) (now : List (Option ℕ)) : Type 0 where
  pub stand : IsStand m bars x (slice_index new x)
  pub stood : new ≡ slice_set stands x (slice_index new x)
  pub placed : now ≡ slice_set places x (best_within m bars x)

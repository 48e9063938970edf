-- Where candidates stand in their lists under bars, and which places they have so.
use Rattle.std.specs.Prelude.{◌≡◌, ℕ, ◌≤◌, ◌<◌, false, List, length, Option, slice_get, slice_index}
use Rattle.markets.specs.Markets.{MarketRows, list_of, market_order}
use Rattle.markets.specs.Matchings.{place_of}
use Rattle.markets.specs.Bars.{is_within, best_within}

-- the entries of a candidate's list before one are beyond reach
abbrev pub AreBeyond : MarketRows → List ℕ → ℕ → ℕ → Type 0
AreBeyond m bars x s = (k : ℕ) → k < s → is_within m bars x (slice_index (list_of m x) k) ≡ false

-- the first entry within reach of the bars; the end of the list where none is
pub record IsStand (m : MarketRows) (bars : List ℕ) (x s : ℕ) : Type 0 where
  pub within : s ≤ length (list_of m x)
  pub beyond : AreBeyond m bars x s
  pub best : slice_get (list_of m x) s ≡ best_within m bars x

-- the stand of each candidate
pub record AreStands (m : MarketRows) (bars stands : List ℕ) : Type 0 where
  pub one_each : length stands ≡ length m.lists
  pub each : (x : ℕ) → x < length m.lists → IsStand m bars x (slice_index stands x)

-- bars that stand on positions, with the stand and the place of each candidate
pub record AreSeated (m : MarketRows) (bars stands : List ℕ)
    (places : List (Option ℕ)) : Type 0 where
  pub one_bar_each : length bars ≡ length m.orders
  pub under : (p : ℕ) → slice_index bars p ≤ length (market_order m p)
  pub stood : AreStands m bars stands
  pub one_place_each : length places ≡ length m.lists
  pub placed : (x : ℕ) → place_of places x ≡ best_within m bars x

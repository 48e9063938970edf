-- What holds of the greatest bars of a market, over definitions alone.
use Rattle.std.specs.Prelude.{◌≡◌, ℕ, List, Option}
use Rattle.admit_core.specs.declared.records.Fall.{Fall}
use Rattle.admit_core.specs.Falls.{IsLawful, IsGreatest, IsRunOfFalls, bars_after}
use Rattle.markets.specs.Markets.{MarketRows, IsMarket}
use Rattle.markets.specs.Matchings.{IsStable, IsBestForAll}
use Rattle.markets.specs.Bars.{market_system, matched_under}
use Rattle.markets.specs.Placed.{ArePlacedInAll, HaveSamePlaced}

-- positions stay demanded while bars fall
abbrev pub MarketsAreLawful : Type 0
MarketsAreLawful = (m : MarketRows) → IsMarket m → IsLawful (market_system m)

-- the greatest bars give a stable matching
abbrev pub GreatestBarsAreStable : Type 0
GreatestBarsAreStable =
    (m : MarketRows) (bars : List ℕ) → IsMarket m → IsGreatest (market_system m) bars
    → IsStable m (matched_under m bars)

-- and no stable matching is better for anyone
abbrev pub GreatestBarsAreBest : Type 0
GreatestBarsAreBest =
    (m : MarketRows) (bars : List ℕ) → IsMarket m → IsGreatest (market_system m) bars
    → IsBestForAll m (matched_under m bars)

-- whichever programme falls first, each candidate has the same place
abbrev pub TheSameWhicheverFallsFirst : Type 0
TheSameWhicheverFallsFirst =
    (m : MarketRows) (falls others : List Fall)
    → IsMarket m
    → IsRunOfFalls (market_system m) falls
    → IsRunOfFalls (market_system m) others
    → matched_under m (bars_after (market_system m).ceilings falls)
    ≡ matched_under m (bars_after (market_system m).ceilings others)

-- who has a place under the greatest bars has one in every stable matching, and each programme has
-- as many
abbrev pub GreatestBarsPlaceTheSame : Type 0
GreatestBarsPlaceTheSame =
    (m : MarketRows) (bars : List ℕ)
    → IsMarket m
    → IsGreatest (market_system m) bars
    → ArePlacedInAll m (matched_under m bars)

-- every market has a stable matching that is best for all
abbrev pub ThereIsABest : Type 0
ThereIsABest =
    (m : MarketRows) → IsMarket m → (places : List (Option ℕ)) × IsStable m places
    × IsBestForAll m places

-- the same candidates have a place in all stable matchings, and each programme as many
abbrev pub TheSameHavePlaces : Type 0
TheSameHavePlaces =
    (m : MarketRows) (one other : List (Option ℕ)) → IsMarket m → IsStable m one → IsStable m other
    → HaveSamePlaced m one other

-- and no two are best for all
abbrev pub TheBestIsOne : Type 0
TheBestIsOne =
    (m : MarketRows) (one other : List (Option ℕ))
    → IsStable m one
    → IsBestForAll m one
    → IsStable m other
    → IsBestForAll m other
    → one ≡ other

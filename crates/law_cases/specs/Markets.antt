-- Witnesses of the laws of markets: two candidates who each prefer the programme that prefers the
-- other, three who want two seats, and two programmes that fall in either order.
use Rattle.std.specs.Prelude.{◌≡◌, ℕ, false, List, [], ◌∷◌, ◌++◌, Option, Some, None}
use Rattle.admit_core.specs.declared.ranking.CallOrder.{CallOrder}
use Rattle.admit_core.specs.declared.records.Fall.{Fall}
use Rattle.admit_core.specs.DossierRows.{DossierRows}
use Rattle.admit_core.specs.Falls.{IsGreatest, IsLawful, IsRunOfFalls, bars_after, falls_by}
use Rattle.admit_core.specs.Standing.{dossier_of}
use Rattle.admit_core.specs.WorkedFaults.{wish}
use Rattle.fairness.specs.NotPromised.{by_rank, group, plain, programme, tables}
use Rattle.markets.specs.Bars.{market_system, matched_under}
use Rattle.markets.specs.Dossiers.{market_candidates, market_of}
use Rattle.markets.specs.Markets.{IsMarket, MarketRows}
use Rattle.markets.specs.Matchings.{IsBestForAll, IsStable, place_of, prefers}
use Rattle.markets.specs.Placed.{ArePlacedInAll, HaveSamePlaced}
use Rattle.stable_market.specs.Truth.{DifferAtMostIn}
use Rattle.stable_market.specs.Worked.{contested, crossed}

abbrev pub MarketsAreLawfulWitness : Type 0
MarketsAreLawfulWitness =
    let m : MarketRows = contested in
    IsMarket m × IsLawful (market_system m)

-- both bars have fallen to the first of the order
abbrev pub GreatestBarsAreStableWitness : Type 0
GreatestBarsAreStableWitness =
    let m : MarketRows = contested in
    let bars : List ℕ = 1 ∷ 1 ∷ [] in
    IsMarket m × IsGreatest (market_system m) bars
    × IsStable m (matched_under m bars)

-- two matchings are stable, and the bars give the better one
abbrev pub GreatestBarsAreBestWitness : Type 0
GreatestBarsAreBestWitness =
    let m : MarketRows = crossed in
    let bars : List ℕ = 2 ∷ 2 ∷ [] in
    IsMarket m × IsGreatest (market_system m) bars
    × IsBestForAll m (matched_under m bars)

-- two candidates for each of two seats
abbrev pub two_contests : MarketRows
two_contests =
    record {
      lists = (0 ∷ []) ∷ (0 ∷ []) ∷ (1 ∷ []) ∷ (1 ∷ []) ∷ [];
      orders = (0 ∷ 1 ∷ []) ∷ (2 ∷ 3 ∷ []) ∷ [];
      seats = 1 ∷ 1 ∷ [];
    }

abbrev pub TheSameWhicheverFallsFirstWitness : Type 0
TheSameWhicheverFallsFirstWitness =
    let m : MarketRows = two_contests in
    let falls : List Fall = falls_by (market_system two_contests) (2 ∷ 2 ∷ []) (0 ∷ 1 ∷ []) in
    let others : List Fall = falls_by (market_system two_contests) (2 ∷ 2 ∷ []) (1 ∷ 0 ∷ []) in
    IsMarket m
    × IsRunOfFalls (market_system m) falls
    × IsRunOfFalls (market_system m) others
    × (matched_under m (bars_after (market_system m).ceilings falls)
    ≡ matched_under m (bars_after (market_system m).ceilings others))

-- the third candidate has no place, here nor in any stable matching
abbrev pub GreatestBarsPlaceTheSameWitness : Type 0
GreatestBarsPlaceTheSameWitness =
    let m : MarketRows = contested in
    let bars : List ℕ = 1 ∷ 1 ∷ [] in
    IsMarket m
    × IsGreatest (market_system m) bars
    × ArePlacedInAll m (matched_under m bars)

-- ---- all stable matchings
-- the candidates' best matching of the crossed market, and the programmes'
abbrev pub their_first : List (Option ℕ)
their_first = Some 1 ∷ Some 0 ∷ []

abbrev pub their_second : List (Option ℕ)
their_second = Some 0 ∷ Some 1 ∷ []

abbrev pub ThereIsABestWitness : Type 0
ThereIsABestWitness =
    let m : MarketRows = crossed in
    IsMarket m × (places : List (Option ℕ)) × IsStable m places
    × IsBestForAll m places

abbrev pub TheSameHavePlacesWitness : Type 0
TheSameHavePlacesWitness =
    let m : MarketRows = crossed in
    let one : List (Option ℕ) = their_first in
    let other : List (Option ℕ) = their_second in
    IsMarket m × IsStable m one × IsStable m other
    × HaveSamePlaced m one other

abbrev pub TheBestIsOneWitness : Type 0
TheBestIsOneWitness =
    let m : MarketRows = crossed in
    let one : List (Option ℕ) = their_first in
    let other : List (Option ℕ) = matched_under crossed (2 ∷ 2 ∷ []) in
    IsStable m one
    × IsBestForAll m one
    × IsStable m other
    × IsBestForAll m other
    × (one ≡ other)

-- the first candidate hands in their second programme alone, and gets it
abbrev pub second_alone : MarketRows
second_alone =
    record {
      lists = (0 ∷ []) ∷ (0 ∷ 1 ∷ []) ∷ [];
      orders = (0 ∷ 1 ∷ []) ∷ (1 ∷ []) ∷ [];
      seats = 1 ∷ 1 ∷ [];
    }

abbrev pub TruthPaysWitness : Type 0
TruthPaysWitness =
    let m : MarketRows = crossed in
    let other : MarketRows = second_alone in
    let x : ℕ = 0 in
    let q : ℕ = 0 in
    let best : List (Option ℕ) = their_first in
    let found : List (Option ℕ) = their_second in
    IsMarket m
    × IsMarket other
    × DifferAtMostIn x m other
    × IsStable m best
    × IsBestForAll m best
    × IsStable other found
    × (place_of found x ≡ Some q)
    × (prefers m best x q ≡ false)

-- ---- the dossier of two candidates who each come first in the programme that the other prefers is
-- the crossed market, in which each has the programme that they prefer
abbrev pub CrossedDossier : Type 0
CrossedDossier =
    let d : DossierRows =
    dossier_of (tables (group 1 0 ∷ group 2 0 ∷ []) (programme 10 1 1 ∷ programme 20 2 1 ∷ []) []
    (by_rank 1 (102 ∷ 101 ∷ []) ++ by_rank 2 (101 ∷ 102 ∷ [])) [] (wish 1 102 20 None 1
    ∷ wish 2 101 10 None 1 ∷ wish 3 102 10 None 2 ∷ wish 4 101 20 None 2 ∷ [])) in
    let orders : List CallOrder = plain (102 ∷ 101 ∷ []) ∷ plain (101 ∷ 102 ∷ []) ∷ [] in
    (market_of d orders ≡ crossed) × (market_candidates d ≡ 102 ∷ 101 ∷ [])

-- What the text of the mode `market` tells.
use Rattle.std.specs.Prelude.{◌≡◌, ℕ, List, Option}
use Rattle.admit_core.specs.CallOrder.{AreCallOrders}
use Rattle.admit_core.specs.DossierRows.{DossierRows}
use Rattle.admit_core.specs.Validity.{IsValid}
use Rattle.admit_core.specs.declared.ranking.CallOrder.{CallOrder}
use Rattle.markets.specs.Dossiers.{market_candidates, market_of}
use Rattle.markets.specs.Matchings.{IsBestForAll, IsStable}
use Rattle.markets.specs.Text.{market_text}
use Rattle.modes.specs.Market.{TellsMarket}

-- the text tells a stable matching in which each candidate has the best programme that they have in
-- any
pub record TellsTheBest (d : DossierRows) (orders : List CallOrder) (text : List ℕ) : Type 0 where
  pub bars : List ℕ
  pub places : List (Option ℕ)
  pub stable : IsStable (market_of d orders) places
  pub best : IsBestForAll (market_of d orders) places
  pub is_text : text ≡ market_text d (market_candidates d) bars places

-- the places under the greatest bars of a dossier's market are such a matching
abbrev pub MarketsTellTheBest : Type 0
MarketsTellTheBest =
    (d : DossierRows) (orders : List CallOrder) (text : List ℕ)
    → IsValid d
    → AreCallOrders d.groups orders
    → TellsMarket d orders text
    → TellsTheBest d orders text

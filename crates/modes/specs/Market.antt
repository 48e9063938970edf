-- The mode `market`: the dossier's market, its greatest bars, and the places under them.
use Rattle.std.specs.Prelude.{◌≡◌, ℕ, ◌++◌, List, Result, IfOk, OnErr}
use Rattle.admit_core.specs.DossierRows.{DossierRows}
use Rattle.admit_core.specs.Falls.{IsGreatest}
use Rattle.admit_core.specs.declared.ranking.CallOrder.{CallOrder}
use Rattle.bar_fixpoint.specs.Chosen.{TellsOfFalls}
use Rattle.markets.specs.Bars.{market_system, matched_under}
use Rattle.markets.specs.Dossiers.{market_candidates, market_of}
use Rattle.markets.specs.Markets.{MarketRows}
use Rattle.markets.specs.Solving.{IsLedTo}
use Rattle.markets.specs.Text.{market_text}
use Rattle.markets.specs.declared.solution.Solved.{Solved}

-- a picker that was asked as a market was solved told of the falls that led to its bars, or of
-- falls where memory ran out, and chooses as it did
pub record IsAskedFor {E : Type 0} (m : MarketRows) (result : Result Solved E)
    (chooses chooses_now : List ℕ → List ℕ → ℕ) (before now : List ℕ) : Type 0 where
  pub led : IfOk result
      (λ solved. IsLedTo (market_system m) chooses before now solved.bars.items)
  pub told_by_then : OnErr result (TellsOfFalls (market_system m) chooses before now)
  pub choice : chooses_now ≡ chooses

-- the text tells the greatest bars of the dossier's market, and the places under them: each
-- candidate has the programme that they prefer of those within their reach
pub record TellsMarket (d : DossierRows) (orders : List CallOrder) (text : List ℕ) : Type 0 where
  pub bars : List ℕ
  pub greatest : IsGreatest (market_system (market_of d orders)) bars
  pub is_text : text
      ≡ market_text d (market_candidates d) bars (matched_under (market_of d orders) bars)

-- a picker told of the programmes whose bars fell to the greatest, each of which it chose
pub record PicksForMarket (d : DossierRows) (orders : List CallOrder) (choice : List ℕ → List ℕ → ℕ)
    (told picks : List ℕ) : Type 0 where
  pub bars : List ℕ
  pub led : IsLedTo (market_system (market_of d orders)) choice told (told ++ picks) bars

-- what it told where memory ran out: of falls of the market, each of which it chose
abbrev pub BreaksMarket : DossierRows → List CallOrder → (List ℕ → List ℕ → ℕ) → List ℕ → List ℕ
    → Type 0
BreaksMarket d orders choice told after =
    TellsOfFalls (market_system (market_of d orders)) choice told after

use Rattle.law_cases.proofs.MarketCases.{crossed_dossier}
use Rattle.law_cases.proofs.matchings.worked_market_of_dossier.Goals as goal

pub returns : goal.returns
returns c = record {
  crossed = crossed_dossier;
}

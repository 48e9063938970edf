-- The text of a dossier's market tells the best stable matching.
use Rattle.markets.proofs.Best.{greatest_is_best}
use Rattle.markets.proofs.Called.{market_stands}
use Rattle.markets.proofs.Stable.{greatest_is_stable}
use Rattle.markets.specs.Bars.{matched_under}
use Rattle.markets.specs.Dossiers.{market_of}
use Rattle.outcome_laws.specs.MarketTexts.{MarketsTellTheBest}

pub markets_tell_the_best : MarketsTellTheBest
markets_tell_the_best d orders text valid called tells =
    let stands = market_stands d valid orders called in
    record {
      bars = tells.bars;
      places = matched_under (market_of d orders) tells.bars;
      stable = greatest_is_stable (market_of d orders) tells.bars stands tells.greatest;
      best = greatest_is_best (market_of d orders) tells.bars stands tells.greatest;
      is_text = tells.is_text;
    }

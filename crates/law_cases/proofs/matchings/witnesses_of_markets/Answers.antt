use Rattle.law_cases.proofs.MarketCases.{greatest_bars_are_best, greatest_bars_are_stable, greatest_bars_place_the_same}
use Rattle.law_cases.proofs.MarketCases.{markets_are_lawful, the_same_whichever_falls_first}
use Rattle.law_cases.proofs.matchings.witnesses_of_markets.Goals as goal

pub returns : goal.returns
returns c = record {
  lawful = markets_are_lawful;
  stable = greatest_bars_are_stable;
  best = greatest_bars_are_best;
  same = the_same_whichever_falls_first;
  placed = greatest_bars_place_the_same;
}

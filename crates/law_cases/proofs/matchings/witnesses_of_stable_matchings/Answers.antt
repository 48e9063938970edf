use Rattle.law_cases.proofs.MarketCases.{the_best_is_one_here, the_same_have_places, there_is_a_best_here}
use Rattle.law_cases.proofs.MarketCases.{truth_pays_here}
use Rattle.law_cases.proofs.matchings.witnesses_of_stable_matchings.Goals as goal

pub returns : goal.returns
returns c = record {
  exists = there_is_a_best_here;
  one = the_best_is_one_here;
  placed = the_same_have_places;
  truth = truth_pays_here;
}

use Rattle.law_cases.proofs.PromiseCases.{better_boarding_rank_costs_no_offer, better_position_costs_no_offer}
use Rattle.law_cases.proofs.PromiseCases.{better_position_costs_no_offer_other}
use Rattle.law_cases.proofs.promises.witnesses_of_exchanges.Goals as goal

pub returns : goal.returns
returns c = record {
  first_programme = better_position_costs_no_offer;
  last_programme = better_position_costs_no_offer_other;
  boarding_rank = better_boarding_rank_costs_no_offer;
}

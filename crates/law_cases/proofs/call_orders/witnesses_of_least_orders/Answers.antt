use Rattle.law_cases.proofs.OrderCases.{has_lesser_rank, is_least_by_residents, is_least_by_scholars}
use Rattle.law_cases.proofs.OrderCases.{is_least_that_keeps}
use Rattle.law_cases.proofs.call_orders.witnesses_of_least_orders.Goals as goal

pub returns : goal.returns
returns c = record {
  lesser = has_lesser_rank;
  least = is_least_that_keeps;
  by_scholars = is_least_by_scholars;
  by_residents = is_least_by_residents;
}

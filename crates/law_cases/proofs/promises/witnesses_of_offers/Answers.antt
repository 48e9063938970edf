use Rattle.law_cases.proofs.PromiseCases.{go_to_better_ranks, no_bed_goes_to_worse_rank_here, nobody_is_passed_over}
use Rattle.law_cases.proofs.PromiseCases.{nobody_is_passed_over_other}
use Rattle.law_cases.proofs.promises.witnesses_of_offers.Goals as goal

pub returns : goal.returns
returns c = record {
  passed_over = nobody_is_passed_over;
  by_limit = nobody_is_passed_over_other;
  beds = no_bed_goes_to_worse_rank_here;
  better_rank = go_to_better_ranks;
}

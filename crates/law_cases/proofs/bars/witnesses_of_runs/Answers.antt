use Rattle.law_cases.proofs.BarCases.{above_all_that_fit, every_run_ends_at_the_greatest, falls_stay_above}
use Rattle.law_cases.proofs.BarCases.{picks_fix_the_falls, the_greatest_is_unique}
use Rattle.law_cases.proofs.bars.witnesses_of_runs.Goals as goal

pub returns : goal.returns
returns c = record {
  greatest = every_run_ends_at_the_greatest;
  above = falls_stay_above;
  fitting = above_all_that_fit;
  unique = the_greatest_is_unique;
  picks = picks_fix_the_falls;
}

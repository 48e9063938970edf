use Rattle.law_cases.proofs.AutomaticCases.{days_end_fair_here, first_evenings_block_none, holds_better}
use Rattle.law_cases.proofs.AutomaticCases.{later_evenings_block_none, nobody_behind, passes_keep_fair_here}
use Rattle.law_cases.proofs.AutomaticCases.{quiet_days_end_fair_here, waiting_is_fair_here}
use Rattle.law_cases.proofs.automatic_days.witnesses_of_automatic_days.Goals as goal

pub returns : goal.returns
returns c = record {
  waiting = waiting_is_fair_here;
  behind = nobody_behind;
  better = holds_better;
  passes = passes_keep_fair_here;
  days = days_end_fair_here;
  quiet_days = quiet_days_end_fair_here;
  first_evenings = first_evenings_block_none;
  later_evenings = later_evenings_block_none;
}

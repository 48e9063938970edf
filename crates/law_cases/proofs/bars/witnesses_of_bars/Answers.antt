use Rattle.law_cases.proofs.BarCases.{lowered_bars_are_full, no_more_stand_ahead, ranks_stand_below_bars}
use Rattle.law_cases.proofs.BarCases.{ranks_stay_demanded, ranks_stay_demanded_other, runs_end_at_greatest}
use Rattle.law_cases.proofs.BarCases.{wishes_stay_open, wishes_stay_proposed}
use Rattle.law_cases.proofs.bars.witnesses_of_bars.Goals as goal

pub returns : goal.returns
returns c = record {
  below_bars = ranks_stand_below_bars;
  stay_demanded = ranks_stay_demanded;
  of_two_schools = ranks_stay_demanded_other;
  stay_open = wishes_stay_open;
  ahead = no_more_stand_ahead;
  stay_proposed = wishes_stay_proposed;
  runs = runs_end_at_greatest;
  full = lowered_bars_are_full;
}

use Rattle.envy.proofs.AutomaticDays.{days_end_fair, first_evening_blocks_none, later_evening_blocks_none}
use Rattle.envy.proofs.AutomaticDays.{passes_keep_fair, quiet_days_end_fair, waiting_is_fair}
use Rattle.envy.proofs.laws.laws_of_automatic_days.Goals as goal

pub returns : goal.returns
returns c = record {
  waiting = waiting_is_fair;
  passes = passes_keep_fair;
  days = days_end_fair;
  quiet_days = quiet_days_end_fair;
  first_evenings = first_evening_blocks_none;
  later_evenings = later_evening_blocks_none;
}

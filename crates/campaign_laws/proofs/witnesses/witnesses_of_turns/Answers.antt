use Rattle.campaign_laws.proofs.MetHere.{came_from_before, never_passed_over_here, without_boarding_here}
use Rattle.campaign_laws.proofs.witnesses.witnesses_of_turns.Goals as goal

pub returns : goal.returns
returns c = record {
  passed_over = never_passed_over_here;
  without_boarding = without_boarding_here;
  came = came_from_before;
}

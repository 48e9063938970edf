use Rattle.law_cases.proofs.EveningCases.{ahead_here, ahead_of_thirteen, held_beds_here, more_beds_here, no_more_ahead}
use Rattle.law_cases.proofs.EveningCases.{overnight_here}
use Rattle.law_cases.proofs.evenings.witnesses_of_campaign_bars.Goals as goal

pub returns : goal.returns
returns c = record {
  overnight = overnight_here;
  ahead = ahead_here;
  no_more = no_more_ahead;
  thirteenth = ahead_of_thirteen;
  more_beds = more_beds_here;
  held = held_beds_here;
}

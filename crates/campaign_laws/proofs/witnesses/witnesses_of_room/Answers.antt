use Rattle.campaign_laws.proofs.MetHere.{beds_here, seats_here}
use Rattle.campaign_laws.proofs.witnesses.witnesses_of_room.Goals as goal

pub returns : goal.returns
returns c = record { beds = beds_here; seats = seats_here }

use Rattle.campaign_laws.proofs.CrossedHere.{has_room, no_worse_here, not_both, stable_here}
use Rattle.campaign_laws.proofs.witnesses.witnesses_of_automatic_days.Goals as goal

pub returns : goal.returns
returns c = record { stable = stable_here; not_both = not_both; room = has_room; no_worse = no_worse_here }

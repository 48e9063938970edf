use Rattle.campaign_laws.proofs.MetHere.{quiet_here}
use Rattle.campaign_laws.proofs.witnesses.witness_of_quiet_days.Goals as goal

pub returns : goal.returns
returns c = record { quiet = quiet_here }

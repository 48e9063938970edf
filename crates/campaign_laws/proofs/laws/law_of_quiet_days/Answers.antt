use Rattle.campaign_laws.proofs.QuietDays.{quiet_days_change_nothing}
use Rattle.campaign_laws.proofs.laws.law_of_quiet_days.Goals as goal

pub returns : goal.returns
returns c = record { quiet = quiet_days_change_nothing }

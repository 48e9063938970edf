use Rattle.day_run.proofs.SameCampaigns.{campaigns_are_fixed}
use Rattle.desk_day.proofs.SameDays.{only_falls_differ}
use Rattle.day_run.proofs.laws.laws_of_days.Goals as goal

pub returns-clause-day : goal.returns-clause-day
returns-clause-day c = only_falls_differ

pub returns-clause-campaign : goal.returns-clause-campaign
returns-clause-campaign c = campaigns_are_fixed

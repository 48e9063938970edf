use Rattle.campaign_laws.proofs.AutomaticDay.{stable_matchings_are_no_worse}
use Rattle.campaign_laws.proofs.StableEvening.{automatic_evenings_are_stable}
use Rattle.campaign_laws.proofs.laws.laws_of_automatic_days.Goals as goal

pub returns : goal.returns
returns c = record { stable = automatic_evenings_are_stable; no_worse = stable_matchings_are_no_worse }

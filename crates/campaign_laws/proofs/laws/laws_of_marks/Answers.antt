use Rattle.campaign_laws.proofs.GoneStays.{gone_stays_gone}
use Rattle.campaign_laws.proofs.WaitingPlace.{waiting_place_never_worsens}
use Rattle.campaign_laws.proofs.laws.laws_of_marks.Goals as goal

pub returns : goal.returns
returns c = record { gone = gone_stays_gone; place = waiting_place_never_worsens }

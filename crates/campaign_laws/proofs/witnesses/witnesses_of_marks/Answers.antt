use Rattle.campaign_laws.proofs.MetHere.{gone_stays, gone_stays_gone_here, never_again, waited, waiting_place_here}
use Rattle.campaign_laws.proofs.MetHere.{places_of_thirteen}
use Rattle.campaign_laws.proofs.witnesses.witnesses_of_marks.Goals as goal

pub returns : goal.returns
returns c = record {
  gone = gone_stays_gone_here;
  gone_stays = gone_stays;
  never_again = never_again;
  waited = waited;
  place = waiting_place_here;
  places = places_of_thirteen;
}

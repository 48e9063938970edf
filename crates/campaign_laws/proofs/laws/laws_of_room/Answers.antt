use Rattle.campaign_laws.proofs.Limits.{never_more_than_seats_and_limit}
use Rattle.campaign_laws.proofs.Room.{never_more_than_beds, never_more_than_seats}
use Rattle.campaign_laws.proofs.laws.laws_of_room.Goals as goal

pub returns : goal.returns
returns c = record {
  beds = never_more_than_beds;
  seats = never_more_than_seats;
  limit = never_more_than_seats_and_limit;
}

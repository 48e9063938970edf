use Rattle.morning_laws.proofs.ReadDates.{read_offers_stand_alike}
use Rattle.morning_laws.proofs.laws.law_of_read_offers.Goals as goal

pub returns : goal.returns
returns c = record { offers = read_offers_stand_alike }

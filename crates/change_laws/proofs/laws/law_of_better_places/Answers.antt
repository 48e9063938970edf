use Rattle.change_laws.proofs.OnePlaceUp.{one_place_up_keeps_each_offer}
use Rattle.change_laws.proofs.laws.law_of_better_places.Goals as goal

-- src/laws.rt:15:1
pub returns : goal.returns
returns c = record { place = one_place_up_keeps_each_offer }

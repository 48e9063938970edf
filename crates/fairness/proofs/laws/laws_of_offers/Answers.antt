use Rattle.fairness.proofs.PassedOver.{nobody_is_passed_over}
use Rattle.fairness.proofs.Beds.{no_bed_goes_to_worse_rank}
use Rattle.fairness.proofs.laws.laws_of_offers.Goals as goal

pub returns : goal.returns
returns c = record { passed_over = nobody_is_passed_over; beds = no_bed_goes_to_worse_rank }

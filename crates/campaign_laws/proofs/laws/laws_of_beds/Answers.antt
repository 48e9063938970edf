use Rattle.campaign_laws.proofs.Beds.{no_bed_goes_past, offers_go_by_the_two_lists}
use Rattle.campaign_laws.proofs.laws.laws_of_beds.Goals as goal

pub returns : goal.returns
returns c = record { barred = no_bed_goes_past; two_lists = offers_go_by_the_two_lists }

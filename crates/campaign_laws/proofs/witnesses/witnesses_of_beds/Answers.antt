use Rattle.campaign_laws.proofs.MetHere.{came_by_better_rank, goes_by_the_two_lists, no_bed_goes_past_here}
use Rattle.campaign_laws.proofs.MetHere.{two_lists_here}
use Rattle.campaign_laws.proofs.witnesses.witnesses_of_beds.Goals as goal

pub returns : goal.returns
returns c = record {
  barred = no_bed_goes_past_here;
  came = came_by_better_rank;
  two_lists = two_lists_here;
  same_wish = goes_by_the_two_lists;
}

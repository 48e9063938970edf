use Rattle.law_cases.proofs.DayCases.{campaigns_fix_them_here, days_end_so_here, days_fix_them_here, desks_end_so_here}
use Rattle.law_cases.proofs.DayCases.{each_is_listed}
use Rattle.law_cases.proofs.told.witnesses_of_explanations.Goals as goal

pub returns : goal.returns
returns c = record {
  listed = each_is_listed;
  days = days_end_so_here;
  desks = desks_end_so_here;
  fixed_by_days = days_fix_them_here;
  fixed_by_campaigns = campaigns_fix_them_here;
}

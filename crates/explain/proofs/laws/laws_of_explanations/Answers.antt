use Rattle.explain.proofs.DayEnds.{days_end_so, desks_end_so}
use Rattle.explain.proofs.FixedCases.{campaigns_fix_them, days_fix_them}
use Rattle.explain.proofs.ByPlace.{each_is_listed}
use Rattle.explain.proofs.OneCase.{each_has_one}
use Rattle.explain.proofs.laws.laws_of_explanations.Goals as goal

pub returns : goal.returns
returns c = record {
  one = each_has_one;
  listed = each_is_listed;
  days = days_end_so;
  desks = desks_end_so;
  fixed_by_days = days_fix_them;
  fixed_by_campaigns = campaigns_fix_them;
}

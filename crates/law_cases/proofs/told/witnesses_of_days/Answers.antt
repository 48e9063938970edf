use Rattle.law_cases.proofs.DayCases.{campaigns_are_fixed_here, only_falls_differ_here}
use Rattle.law_cases.proofs.told.witnesses_of_days.Goals as goal

pub returns : goal.returns
returns c = record {
  day = only_falls_differ_here;
  campaign = campaigns_are_fixed_here;
}

use Rattle.law_cases.proofs.BedCases.{figures_are_fixed_here, greatest_bars_do_not_fall_here}
use Rattle.law_cases.proofs.beds.witnesses_of_beds.Goals as goal

pub returns : goal.returns
returns c = record {
  bars = greatest_bars_do_not_fall_here;
  figures = figures_are_fixed_here;
}

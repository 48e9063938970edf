use Rattle.law_cases.proofs.PassCases.{chains_tell_the_day_here, evenings_are_closed_here, is_filled}
use Rattle.law_cases.proofs.PassCases.{seats_are_filled_here}
use Rattle.law_cases.proofs.passes.witnesses_of_evenings.Goals as goal

pub returns : goal.returns
returns c = record {
  filled = seats_are_filled_here;
  barred = is_filled;
  closed = evenings_are_closed_here;
  tells = chains_tell_the_day_here;
}

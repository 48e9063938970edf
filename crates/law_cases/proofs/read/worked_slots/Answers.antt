use Rattle.law_cases.proofs.ReadCases.{other_rows, programme_rows, state_rows}
use Rattle.law_cases.proofs.read.worked_slots.Goals as goal

pub returns : goal.returns
returns c = record {
  programmes = programme_rows;
  state = state_rows;
  others = other_rows;
}

use Rattle.admit_core.proofs.WorkedFaultRows.{ranking_faults, wish_faults, state_faults, standing_rows, other_faults}
use Rattle.admit_core.proofs.worked.worked_faults.Goals as goal

pub returns : goal.returns
returns c = record {
  rankings = ranking_faults;
  wishes = wish_faults;
  state = state_faults;
  others = other_faults;
  standing = standing_rows;
}

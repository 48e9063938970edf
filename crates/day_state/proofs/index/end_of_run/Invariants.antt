use Rattle.std.proofs.Common.{◌-◌, length}
use Rattle.day_state.specs.Kept.{candidate_in}
use Rattle.day_state.proofs.Runs.{IsRunSoFar}
use Rattle.day_state.proofs.index.end_of_run.Given as goal

abbrev pub invariant-loop-to : goal.invariant-loop-to
invariant-loop-to l = IsRunSoFar (candidate_in l.wishes) l.order l.from l.to

abbrev pub decreases-loop-to : goal.decreases-loop-to
decreases-loop-to l = length l.order - l.to

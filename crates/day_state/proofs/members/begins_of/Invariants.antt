use Rattle.day_state.proofs.ByNumber.{AreBeginsTo}
use Rattle.day_state.proofs.members.begins_of.Given as goal

abbrev pub invariant-loop-place : goal.invariant-loop-place
invariant-loop-place l = AreBeginsTo l.entries l.begins.items l.place

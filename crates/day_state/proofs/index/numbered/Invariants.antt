use Rattle.std.proofs.Common.{◌-◌, length}
use Rattle.day_state.proofs.Runs.{AreNumberedTo}
use Rattle.day_state.proofs.index.numbered.Given as goal

abbrev pub invariant-loop-from : goal.invariant-loop-from
invariant-loop-from l = AreNumberedTo l.wishes l.order l.from l.number l.numbers.items l.begins.items

abbrev pub decreases-loop-from : goal.decreases-loop-from
decreases-loop-from l = length l.order - l.from

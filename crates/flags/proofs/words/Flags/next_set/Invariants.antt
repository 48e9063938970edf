use Rattle.std.proofs.Common.{◌-◌}
use Rattle.flags.proofs.NextSet.{NoneSet}
use Rattle.flags.proofs.words.Flags.next_set.Given as goal

abbrev pub invariant-loop-place : goal.invariant-loop-place
invariant-loop-place l = NoneSet l.self l.from l.place

abbrev pub decreases-loop-place : goal.decreases-loop-place
decreases-loop-place l = l.count - l.place

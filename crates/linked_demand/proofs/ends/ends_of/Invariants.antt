use Rattle.linked_demand.proofs.RowsTo.{AreEndsTo}
use Rattle.linked_demand.proofs.ends.ends_of.Given as goal

abbrev pub invariant-loop-school : goal.invariant-loop-school
invariant-loop-school l = AreEndsTo l.bars l.boarders l.school l.ends.items

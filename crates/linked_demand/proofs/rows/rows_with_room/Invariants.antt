use Rattle.linked_demand.specs.Keyed.{AreEmpty}
use Rattle.linked_demand.proofs.rows.rows_with_room.Given as goal

abbrev pub invariant-loop-count : goal.invariant-loop-count
invariant-loop-count T l = AreEmpty l.count-index l.rows.items

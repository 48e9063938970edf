use Rattle.linked_demand.specs.Keyed.{AreEmpty}
use Rattle.linked_demand.proofs.rows.empty_rows.Given as goal

abbrev pub invariant-loop : goal.invariant-loop
invariant-loop T l = AreEmpty l.counter l.rows.items

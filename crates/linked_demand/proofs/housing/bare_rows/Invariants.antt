use Rattle.linked_demand.proofs.BareRows.{AreBareTo}
use Rattle.linked_demand.proofs.housing.bare_rows.Given as goal

abbrev pub invariant-loop-school : goal.invariant-loop-school
invariant-loop-school l = AreBareTo l.boarders l.ends l.school l.rows.items

use Rattle.std.proofs.Common.{length, take}
use Rattle.linked_demand.specs.Boarders.{boards_in, wishes_of}
use Rattle.linked_demand.specs.Keyed.{AreRowsOf}
use Rattle.linked_demand.specs.Rows.{item_at}
use Rattle.linked_demand.proofs.boarders.boarders_by_school.Given as goal

abbrev pub invariant-loop-boarder : goal.invariant-loop-boarder
invariant-loop-boarder l =
    AreRowsOf (item_at l.state.dossier l.orders.orders) (boards_in l.state.dossier) (length l.state.dossier.schools)
    (take l.boarder-index (wishes_of l.boarder-items)) l.rows.items

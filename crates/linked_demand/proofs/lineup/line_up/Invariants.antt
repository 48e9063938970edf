use Rattle.std.proofs.Common.{◌-◌, length}
use Rattle.linked_demand.proofs.LineWalk.{IsWalkedBy}
use Rattle.linked_demand.proofs.lineup.line_up.Given as goal

abbrev pub invariant-loop-wishes : goal.invariant-loop-wishes
invariant-loop-wishes l = IsWalkedBy l.state.dossier l.orders.orders l.programme l.called l.wishes.items l.bounds.items
    l.notes

abbrev pub decreases-loop-wishes : goal.decreases-loop-wishes
decreases-loop-wishes l = length l.called - length l.wishes.items

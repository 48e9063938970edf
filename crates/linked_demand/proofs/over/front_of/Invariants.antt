use Rattle.std.proofs.Common.{◌-◌, ◌≤◌, length}
use Rattle.linked_demand.proofs.over.front_of.Given as goal

abbrev pub invariant-loop-end : goal.invariant-loop-end
invariant-loop-end l = l.end ≤ length l.row

abbrev pub decreases-loop-end : goal.decreases-loop-end
decreases-loop-end l = length l.row - l.end

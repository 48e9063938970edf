use Rattle.std.proofs.Common.{length}
use Rattle.admit_core.specs.CallOrder.{remaining}
use Rattle.admit_core.proofs.Calls.{CallsSoFar}
use Rattle.scanned_order.proofs.scan.call_order_scanned.Given as goal

abbrev pub invariant-loop-candidate : goal.invariant-loop-candidate
invariant-loop-candidate l = CallsSoFar l.group l.list.items l.trace.items

abbrev pub decreases-loop-candidate : goal.decreases-loop-candidate
decreases-loop-candidate l = length (remaining l.group l.list.items)

use Rattle.std.proofs.Common.{◌≡◌, Some}
use Rattle.admit_core.specs.CallOrder.{next_after}
use Rattle.admit_core.proofs.Remaining.{remaining_falls}
use Rattle.admit_core.proofs.Calls.{calls_none, calls_push, calls_done}
use Rattle.scanned_order.proofs.scan.call_order_scanned.Goals as goal
use Rattle.scanned_order.proofs.scan.call_order_scanned.Goals.{In_ok-push-2}

pub loop-candidate-init : goal.loop-candidate-init
loop-candidate-init c = rw (c.new-list.ensures.items, c.new-trace.ensures.items) (calls_none c.args.group.now)

next : (c : In_ok-push-2) → next_after c.args.group.now c.loop-candidate.list.items
    ≡ Some (c.in-Some.candidate, c.in-Some.bound)
next c = rw (← c.as_slice.ensures.value, ← c.next_after.ensures) c.in-Some.is

pub loop-candidate-smaller : goal.loop-candidate-smaller
loop-candidate-smaller c =
    let fewer = remaining_falls c.args.group.now c.loop-candidate.list.items c.in-Some.candidate c.in-Some.bound
    (next c) in
    rw c.in_ok-push.ensures.items fewer

pub loop-candidate-preserved : goal.loop-candidate-preserved
loop-candidate-preserved c =
    rw (c.in_ok-push.ensures.items, c.in_ok-push-2.ensures.items)
    (calls_push c.args.group.now c.loop-candidate.list.items c.loop-candidate.trace.items c.in-Some.candidate
    c.in-Some.bound c.loop-candidate.invariant (next c))

pub returns-clause-order : goal.returns-clause-order
returns-clause-order c =
    rw (c.from_vec.ensures, c.from_vec-2.ensures)
    (calls_done c.args.group.now c.loop-candidate.list.items c.loop-candidate.trace.items c.loop-candidate.invariant
    (rw (← c.as_slice.ensures.value, ← c.next_after.ensures) c.in_default.is))

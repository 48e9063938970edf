use Rattle.std.proofs.Common.{take, ◌<◌, length, arith}
use Rattle.std.proofs.lemmas.List.{take_more, take_all}
use Rattle.admit_core.specs.CallOrder.{IsCallOrder}
use Rattle.call_order.proofs.Zips.{AllZip-push}
use Rattle.call_order.proofs.group.call_orders.Goals as goal

pub loop-group-preserved : goal.loop-group-preserved
loop-group-preserved c =
    let groups = c.args.groups.now in
    let k = c.loop-group.group-index in
    let order = c.in_ok-call_order.field-0 in
    let within : k < length groups = omega arith in
    rw (take_more groups k c.group-item.result within, ← c.group-item.is, c.in_ok-push.ensures.items)
    (AllZip-push IsCallOrder (take k groups) c.loop-group.orders.items c.group-item.result order c.loop-group.invariant
    c.in_ok-call_order.ensures.order)

pub returns-clause-orders : goal.returns-clause-orders
returns-clause-orders c =
    let groups = c.args.groups.now in
    let k = c.loop-group.group-index in
    rw (c.from_vec.ensures, ← take_all k groups (omega arith)) c.loop-group.invariant

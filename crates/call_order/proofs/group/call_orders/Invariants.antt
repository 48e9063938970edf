use Rattle.std.proofs.Common.{take}
use Rattle.admit_core.specs.CallOrder.{AreCallOrders}
use Rattle.call_order.proofs.group.call_orders.Given as goal

abbrev pub invariant-loop-group : goal.invariant-loop-group
invariant-loop-group l = AreCallOrders (take l.group-index l.groups) l.orders.items

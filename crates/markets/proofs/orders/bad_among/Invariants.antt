use Rattle.std.proofs.Common.{[]}
use Rattle.markets.proofs.Ordering.{OrdersStood}
use Rattle.markets.proofs.orders.bad_among.Given as goal

abbrev pub invariant-loop-order : goal.invariant-loop-order
invariant-loop-order l =
    OrdersStood (record { lists = l.lists; orders = l.orders; seats = [] }) l.order-index l.stamp l.stamps

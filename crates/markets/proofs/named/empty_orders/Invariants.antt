use Rattle.std.proofs.Common.{◌≡◌, length}
use Rattle.markets.proofs.named.empty_orders.Given as goal

abbrev pub invariant-loop-order : goal.invariant-loop-order
invariant-loop-order l = length l.orders.items ≡ l._order

use Rattle.markets.specs.Meeting.{AreInOrder}
use Rattle.markets.proofs.in_place.in_order.Given as goal

abbrev pub invariant-loop-place : goal.invariant-loop-place
invariant-loop-place l = AreInOrder l.place l.fn.rows.items l.rows.items

use Rattle.admit_core.proofs.OneOrder.{one_order}
use Rattle.admit_core.proofs.OrderLaws.{laws_kept}
use Rattle.admit_core.proofs.order_laws.laws_of_call_orders.Goals as goal

pub returns : goal.returns
returns c = record { laws = laws_kept; one = one_order }

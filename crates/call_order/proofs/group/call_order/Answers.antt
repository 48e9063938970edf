use Rattle.std.proofs.lemmas.Result.{IfOk-weaker}
use Rattle.admit_core.specs.CallOrder.{IsCallOrder}
use Rattle.admit_core.specs.CallOrderLaws.{KeepsOrderLaws}
use Rattle.admit_core.proofs.OrderLaws.{laws_kept}
use Rattle.call_order.proofs.group.call_order.Goals as goal

pub returns-clause-laws : goal.returns-clause-laws
returns-clause-laws c =
    let group = c.args.group.now in
    IfOk-weaker c.counted.result (IsCallOrder group) (KeepsOrderLaws group)
    (λ order is. laws_kept group order c.requires is) c.counted.ensures.order

use Rattle.std.proofs.Common.{◌∙◌}
use Rattle.call_order.proofs.FirstPlaces.{first-place, got}
use Rattle.call_order.proofs.queues.Queues.first_eligible.Goals as goal

pub returns : goal.returns
returns c =
    let read = got c.deref.result.now c.first.result c.get.result c.get.ensures.lookup in
    rw (← c.self.view_is, first-place c.self.invariant c.args.bound, ← c.deref.ensures.value, ← c.first.ensures)
    (c.copied.ensures ∙ read)

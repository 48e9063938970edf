use Rattle.std.proofs.Common.{◌∙◌}
use Rattle.call_order.proofs.FirstPlaces.{got}
use Rattle.call_order.proofs.MovedHeads.{head-place}
use Rattle.call_order.proofs.queues.Queues.peek.Goals as goal

pub returns : goal.returns
returns c =
    let read = got c.deref.result.now c.place.result c.get.result c.get.ensures.lookup in
    rw (← c.self.view_is, head-place c.self.invariant c.args.kind, ← c.deref.ensures.value, ← c.place.ensures)
    (c.copied.ensures ∙ read)

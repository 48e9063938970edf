use Rattle.std.proofs.Common.{sym, ◌∙◌}
use Rattle.call_order.proofs.ByKinds.{or_then, or_else, residents_by_kind}
use Rattle.call_order.proofs.queued.resident_remains.Goals as goal

pub returns-then-any_remains : goal.returns-then-any_remains
returns-then-any_remains c = or_then _ c.any_remains.ensures c.if-any_remains.true
    ∙ sym (residents_by_kind c.args.queues.now.remaining)

pub returns-else-any_remains : goal.returns-else-any_remains
returns-else-any_remains c =
    or_else c.any_remains.ensures c.if-any_remains.false c.any_remains-else-any_remains.ensures
    ∙ sym (residents_by_kind c.args.queues.now.remaining)

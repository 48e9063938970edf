use Rattle.call_order.specs.Kinds.{is_of}
use Rattle.call_order.proofs.ByKinds.{any_found}
use Rattle.call_order.proofs.queued.any_remains.Goals as goal

pub returns : goal.returns
returns c = rw (c.is_some.ensures, c.peek.ensures) (any_found (is_of c.args.kind) c.args.queues.now.remaining)

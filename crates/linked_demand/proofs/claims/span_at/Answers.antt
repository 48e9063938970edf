use Rattle.std.proofs.Common.{sym}
use Rattle.linked_demand.proofs.LineWalk.{span_within}
use Rattle.linked_demand.proofs.claims.span_at.Goals as goal

pub returns : goal.returns
returns c = sym (span_within c.args.bounds.now c.args.place c.requires)

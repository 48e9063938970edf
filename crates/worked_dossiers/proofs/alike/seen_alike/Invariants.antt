use Rattle.std.proofs.Common.{◌≡◌}
use Rattle.worked_dossiers.proofs.alike.seen_alike.Given as goal

abbrev pub invariant-loop-falls : goal.invariant-loop-falls
invariant-loop-falls g l = l.linked.state ≡ l.state

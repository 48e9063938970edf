use Rattle.std.proofs.Common.{length}
use Rattle.markets.proofs.Stamping.{AllStood}
use Rattle.markets.proofs.lists.bad_among.Given as goal

abbrev pub invariant-loop-list : goal.invariant-loop-list
invariant-loop-list l = AllStood (length l.fn.stamps) l.lists l.list-index l.stamp l.stamps

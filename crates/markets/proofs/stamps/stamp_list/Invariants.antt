use Rattle.std.proofs.Common.{length, take}
use Rattle.markets.proofs.Stamping.{AreStamped}
use Rattle.markets.proofs.stamps.stamp_list.Given as goal

abbrev pub invariant-loop-number : goal.invariant-loop-number
invariant-loop-number l = AreStamped (length l.fn.stamps) l.stamp (take l.number-index l.list) l.stamps

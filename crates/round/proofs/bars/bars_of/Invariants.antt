use Rattle.std.proofs.Common.{◌≡◌, take}
use Rattle.round.proofs.bars.bars_of.Given as goal

abbrev pub invariant-loop-i : goal.invariant-loop-i
invariant-loop-i g l = l.bars.items ≡ take l.i (g.F.Falling.bars l.system)

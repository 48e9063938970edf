use Rattle.std.proofs.Common.{◌≡◌, filter}
use Rattle.std.specs.List.{range_with_len}
use Rattle.admit_core.specs.Falls.{is_overfilled}
use Rattle.bar_fixpoint.proofs.falling.Falling.overfilled.Given as goal

abbrev pub invariant-loop-i : goal.invariant-loop-i
invariant-loop-i g l = l.places.items ≡ filter (is_overfilled (g.Self.Falling.system l.self)
    (g.Self.Falling.bars l.self)) (range_with_len 0 l.i)

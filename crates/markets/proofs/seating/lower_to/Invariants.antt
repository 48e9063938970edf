use Rattle.std.proofs.Common.{◌≡◌, ◌+◌, ◌-◌}
use Rattle.std.specs.Prelude.{slice_index, slice_set}
use Rattle.markets.specs.Rounds.{IsRound}
use Rattle.markets.proofs.seating.lower_to.Given as goal

abbrev pub invariant-loop-passed : goal.invariant-loop-passed
invariant-loop-passed g l =
    (l.bars.items ≡ slice_set l.fn.bars.items l.programme (slice_index l.fn.bars.items l.programme + l.to - l._passed))
    × IsRound l.market l.bars.items l.seating.stands.items l.seating.places.items l.seating.filling
    × (l.steps + l.to ≡ l.fn.steps + l._passed)

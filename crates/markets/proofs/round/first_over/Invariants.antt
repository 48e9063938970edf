use Rattle.std.proofs.Common.{◌≡◌, ◌<◌, ◌-◌, length}
use Rattle.markets.specs.Rounds.{held_to}
use Rattle.markets.proofs.round.first_over.Given as goal

abbrev pub invariant-loop-passed : goal.invariant-loop-passed
invariant-loop-passed l = (l.left ≡ length (held_to l.market l.seating.places.items l.programme (l.bar - l.passed)))
    × (l.seats < l.left)

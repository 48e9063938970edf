use Rattle.std.proofs.Common.{◌≡◌, map}
use Rattle.markets.specs.Markets.{candidate_at}
use Rattle.markets.specs.Rounds.{held_to}
use Rattle.markets.proofs.round.names_within.Given as goal

abbrev pub invariant-loop-place : goal.invariant-loop-place
invariant-loop-place l = l.names.items ≡ map (candidate_at l.market l.programme)
    (held_to l.market l.places l.programme l.place)

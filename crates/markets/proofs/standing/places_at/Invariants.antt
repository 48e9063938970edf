use Rattle.std.proofs.Common.{◌≡◌, map}
use Rattle.std.specs.List.{range_with_len}
use Rattle.markets.specs.Bars.{best_within}
use Rattle.markets.proofs.standing.places_at.Given as goal

abbrev pub invariant-loop-candidate : goal.invariant-loop-candidate
invariant-loop-candidate l = l.places.items ≡ map (best_within l.market l.bars) (range_with_len 0 l.candidate)

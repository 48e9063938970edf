use Rattle.std.proofs.Common.{◌≡◌, map, slice_index, take}
use Rattle.markets.proofs.calling.places_of.Given as goal

abbrev pub invariant-loop-number : goal.invariant-loop-number
invariant-loop-number l = l.found.items ≡ map (slice_index l.places) (take l.number-index l.numbers)

use Rattle.std.proofs.Common.{◌≡◌, take}
use Rattle.markets.specs.Walks.{numbers_in}
use Rattle.markets.proofs.calling.numbers_of.Given as goal

abbrev pub invariant-loop-candidate : goal.invariant-loop-candidate
invariant-loop-candidate l = l.numbers.items ≡ numbers_in l.names.keys (take l.candidate-index l.order)

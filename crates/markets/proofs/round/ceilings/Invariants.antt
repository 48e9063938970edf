use Rattle.std.proofs.Common.{◌≡◌, map, length, take}
use Rattle.markets.proofs.round.ceilings.Given as goal

abbrev pub invariant-loop-programme : goal.invariant-loop-programme
invariant-loop-programme l = l.ceilings.items ≡ map length (take l.programme l.market.orders)

use Rattle.std.proofs.Common.{take}
use Rattle.markets.specs.Meeting.{Meets}
use Rattle.markets.proofs.in_place.meet.Given as goal

abbrev pub invariant-loop-number : goal.invariant-loop-number
invariant-loop-number l = Meets l.orders l.candidate (take l.number-index l.list) l.fn.notes l.notes

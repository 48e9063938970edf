use Rattle.std.proofs.Common.{take}
use Rattle.day_state.specs.Others.{TakesOver}
use Rattle.day_state.proofs.counted_marks.CountedMarks.take_over.Given as goal

abbrev pub invariant-loop-place : goal.invariant-loop-place
invariant-loop-place l = TakesOver (take l.place-index l.places) l.other l.fn.self l.self

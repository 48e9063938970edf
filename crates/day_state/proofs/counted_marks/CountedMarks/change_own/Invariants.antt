use Rattle.day_state.proofs.Changing.{IsChanging}
use Rattle.day_state.proofs.counted_marks.CountedMarks.change_own.Given as goal

abbrev pub invariant-loop-place : goal.invariant-loop-place
invariant-loop-place l = IsChanging l.change l.stamp l.candidate l.own l.fn.self l.self l.freed l.place-index

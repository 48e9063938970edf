use Rattle.day_state.proofs.Answering.{IsAppliedTo}
use Rattle.day_state.proofs.day.DayState.apply_front.Given as goal

abbrev pub invariant-loop-index : goal.invariant-loop-index
invariant-loop-index l = IsAppliedTo l.fn.self l.self l.stamp l.answers l.index

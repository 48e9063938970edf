use Rattle.day_state.proofs.TakingOver.{IsTakingOver}
use Rattle.day_state.proofs.day.DayState.take_over_each.Given as goal

abbrev pub invariant-loop-place : goal.invariant-loop-place
invariant-loop-place l = IsTakingOver l.places l.place-index l.other l.fn.self l.self-inside.index.value
    l.self-inside.live

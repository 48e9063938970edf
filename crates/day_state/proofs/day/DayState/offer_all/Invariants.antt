use Rattle.admit_core.specs.declared.state.Status.TheVariants.{Offered}
use Rattle.admit_core.specs.State.{changed_to}
use Rattle.day_state.proofs.Along.{IsOnWay}
use Rattle.day_state.proofs.day.DayState.offer_all.Given as goal

abbrev pub invariant-loop-wish : goal.invariant-loop-wish
invariant-loop-wish l = IsOnWay (λ w m. changed_to Offered l.stamp m) l.fn.self l.self l.wishes l.wish-index

use Rattle.day_state.proofs.Beside.{ListsSet}
use Rattle.day_state.proofs.bundles.push_set.Given as goal

abbrev pub invariant-loop-place : goal.invariant-loop-place
invariant-loop-place l = ListsSet l.flags l.places l.place-index l.initial.found.items l.found.items

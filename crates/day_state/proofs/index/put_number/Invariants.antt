use Rattle.std.proofs.Common.{take}
use Rattle.day_state.specs.Kept.{IsPut}
use Rattle.day_state.proofs.index.put_number.Given as goal

abbrev pub invariant-loop-place : goal.invariant-loop-place
invariant-loop-place l = IsPut (take l.place-index l.places) l.number l.initial.numbers.items l.numbers.items

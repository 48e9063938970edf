use Rattle.std.specs.Prelude.{◌≡◌, ◌==◌, All, take, false}
use Rattle.day_state.proofs.numbers.number_from.Given as goal

abbrev pub invariant-loop-place : goal.invariant-loop-place
invariant-loop-place l = All (λ e. (e.wish == l.wish) ≡ false) (take l.place l.entries.items)

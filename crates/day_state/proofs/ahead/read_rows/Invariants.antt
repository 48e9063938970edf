use Rattle.day_state.specs.Ahead.{StandThere}
use Rattle.day_state.proofs.ahead.read_rows.Given as goal

abbrev pub invariant-loop-place : goal.invariant-loop-place
invariant-loop-place l = StandThere l.wishes l.rows.items

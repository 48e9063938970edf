use Rattle.day_state.proofs.Entries.{AreStartsTo}
use Rattle.day_state.proofs.numbers.starts_of.Given as goal

abbrev pub invariant-loop-place : goal.invariant-loop-place
invariant-loop-place l = AreStartsTo l.entries l.starts.items l.place

use Rattle.day_state.proofs.Entries.{AreSitedTo}
use Rattle.day_state.proofs.bundle_numbers.sited_of.Given as goal

abbrev pub invariant-loop-place : goal.invariant-loop-place
invariant-loop-place l = AreSitedTo l.sites l.wishes l.sited l.place

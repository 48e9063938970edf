use Rattle.std.proofs.Common.{take}
use Rattle.day_state.specs.Bundles.{HaveEntries}
use Rattle.day_state.proofs.bundle_numbers.several_of.Given as goal

abbrev pub invariant-loop-entry : goal.invariant-loop-entry
invariant-loop-entry l = HaveEntries (take l.entry-index l.entries) l.count l.several

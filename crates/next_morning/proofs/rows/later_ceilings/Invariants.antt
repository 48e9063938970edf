use Rattle.std.proofs.Common.{◌≡◌, take}
use Rattle.next_morning.specs.Morning.{later_ceilings}
use Rattle.next_morning.proofs.rows.later_ceilings.Given as goal

abbrev pub invariant-loop-change : goal.invariant-loop-change
invariant-loop-change l = l.rows.items ≡ later_ceilings l.day (take l.change-index l.changes)

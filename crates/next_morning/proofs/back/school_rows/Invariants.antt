use Rattle.std.proofs.Common.{◌≡◌, map, take}
use Rattle.next_morning.specs.RowsBack.{school_row}
use Rattle.next_morning.proofs.back.school_rows.Given as goal

abbrev pub invariant-loop-school : goal.invariant-loop-school
invariant-loop-school l = l.rows.items ≡ map school_row (take l.school-index l.schools)

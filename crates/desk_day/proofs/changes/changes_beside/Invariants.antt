use Rattle.std.proofs.Common.{◌≡◌}
use Rattle.desk_day.proofs.Listed.{listed}
use Rattle.desk_day.proofs.BesideChanges.{changed_at, change_at}
use Rattle.desk_day.proofs.changes.changes_beside.Given as goal

abbrev pub invariant-loop-place : goal.invariant-loop-place
invariant-loop-place l = l.changes.items ≡ listed (change_at l.closing.marks)
    (changed_at l.opening.marks l.closing.marks) l.place-items
    l.place-index

use Rattle.std.proofs.Common.{◌≡◌, zip}
use Rattle.std.specs.List.{enumerate_from}
use Rattle.desk_day.proofs.Listed.{listed}
use Rattle.desk_day.proofs.ChangedMarks.{change_of, is_answered}
use Rattle.desk_day.proofs.changes.answered_changes.Given as goal

abbrev pub invariant-loop-wish : goal.invariant-loop-wish
invariant-loop-wish l = l.changes.items ≡ listed change_of is_answered
    (enumerate_from 0 (zip l.opening.marks l.closing.marks)) l.wish

use Rattle.std.proofs.Common.{◌≡◌}
use Rattle.desk_day.proofs.BesideChanges.{own_so_far}
use Rattle.desk_day.proofs.changes.wishes_beside.Given as goal

abbrev pub invariant-loop-place : goal.invariant-loop-place
invariant-loop-place l = l.own.items ≡ own_so_far l.state.dossier l.places l.place-index

use Rattle.std.proofs.Common.{◌≡◌, length}
use Rattle.dossier_check.proofs.groups.rooms_of.Given as goal

abbrev pub invariant-loop-place : goal.invariant-loop-place
invariant-loop-place l = length l.rooms.items ≡ l.groups

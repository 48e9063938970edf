use Rattle.std.proofs.Common.{◌≡◌, map, take, []}
use Rattle.admit_core.specs.Standing.{ranked_in}
use Rattle.dossier_check.proofs.groups.empty_lists.Given as goal

abbrev pub invariant-loop-room : goal.invariant-loop-room
invariant-loop-room l = map (λ v. v.items) l.lists.items ≡ map (ranked_in []) (take l.room-index l.groups.keys)

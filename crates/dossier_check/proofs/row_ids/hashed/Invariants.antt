use Rattle.std.proofs.Common.{◌≡◌, take}
use Rattle.dossier_check.proofs.row_ids.hashed.Given as goal

abbrev pub invariant-loop-id : goal.invariant-loop-id
invariant-loop-id l = l.set.keys ≡ take l.id-index l.ids

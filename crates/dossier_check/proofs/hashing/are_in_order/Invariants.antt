use Rattle.std.proofs.Common.{◌≡◌, drop}
use Rattle.dossier_check.specs.Hashing.{in_order}
use Rattle.dossier_check.proofs.hashing.are_in_order.Given as goal

abbrev pub invariant-loop-row : goal.invariant-loop-row
invariant-loop-row l = in_order 0 0 l.rows ≡ in_order l.id l.candidate (drop l.row-index l.rows)

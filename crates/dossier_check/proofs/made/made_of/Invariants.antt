use Rattle.std.proofs.Common.{◌≡◌, map, take}
use Rattle.dossier_check.proofs.made.made_of.Given as goal

abbrev pub invariant-loop-number : goal.invariant-loop-number
invariant-loop-number g l = l.items.items ≡ map (g.M.Makes.made l.maker) (take l.number l.rows)

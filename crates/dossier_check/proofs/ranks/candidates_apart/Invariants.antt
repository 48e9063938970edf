use Rattle.std.proofs.Common.{nat_eq}
use Rattle.std.specs.List.{AllWithin, IsDistinct}
use Rattle.dossier_check.proofs.ranks.candidates_apart.Given as goal

abbrev pub invariant-loop-list : goal.invariant-loop-list
invariant-loop-list l = AllWithin (λ v. IsDistinct nat_eq v.items) l.lists 0 l.list-index

use Rattle.std.proofs.Common.{nat_eq, map}
use Rattle.std.specs.List.{AllWithin, IsDistinct}
use Rattle.dossier_check.proofs.ranks.ranks_apart.Given as goal

abbrev pub invariant-loop-ranking : goal.invariant-loop-ranking
invariant-loop-ranking l = AllWithin (λ g. IsDistinct nat_eq (map (λ r. r.rank) g.list)) l.rankings 0 l.ranking-index

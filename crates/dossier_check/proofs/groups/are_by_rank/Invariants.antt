use Rattle.std.proofs.Common.{◌≡◌}
use Rattle.std.specs.List.{AllWithin}
use Rattle.admit_core.specs.Lists.{sorted_by}
use Rattle.dossier_check.proofs.groups.are_by_rank.Given as goal

abbrev pub invariant-loop-list : goal.invariant-loop-list
invariant-loop-list l = AllWithin (λ v. v.items ≡ sorted_by (λ r. r.rank) v.items) l.lists 0 l.list-index

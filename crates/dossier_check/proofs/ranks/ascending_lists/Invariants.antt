use Rattle.std.proofs.Common.{◌≡◌, map, take}
use Rattle.dossier_check.specs.Dealt.{ascending}
use Rattle.dossier_check.proofs.ranks.ascending_lists.Given as goal

abbrev pub invariant-loop-list : goal.invariant-loop-list
invariant-loop-list l = map (λ v. v.items) l.done.items ≡ map (λ v. ascending v.items)
    (take l.list-index l.lists)

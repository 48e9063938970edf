use Rattle.std.proofs.Common.{rules, subst, ◌∙◌}
use Rattle.std.specs.List.{range_with_len}
use Rattle.std.specs.List.Sorted.{IsPermutation}
use Rattle.std.proofs.lemmas.List.{map-id}
use Rattle.std.proofs.lemmas.List.Sorted.{IsNonDecreasingBy-from_sort_by_key}
use Rattle.admit_core.specs.DossierRows.{group_of}
use Rattle.markets.proofs.calling.by_group.Goals as goal

pub returns-clause-all : goal.returns-clause-all
returns-clause-all c = subst (λ xs. IsPermutation xs c.sort_by_key.new.self.items)
    (c.in_ok-programmes.ensures ∙ map-id (range_with_len 0 c.args.count)) c.sort_by_key.ensures.permutation

pub returns-clause-together : goal.returns-clause-together
returns-clause-together c =
    IsNonDecreasingBy-from_sort_by_key (group_of c.args.dossier.now) _ c.in_ok-sort_by_key.ensures.sorted
    (λ a r q k. search rules)

use Rattle.std.proofs.Common.{◌∙◌, ap}
use Rattle.std.proofs.lemmas.List.Sorted.{IsNonDecreasingBy-from_sort}
use Rattle.admit_core.specs.Lists.{sorted_by}
use Rattle.dossier_check.proofs.SortedNumbers.{sorted_numbers}
use Rattle.dossier_check.proofs.ranks.ascending.Goals as goal

pub returns : goal.returns
returns c =
    let now = c.sort_unstable.new.self.items in
    sorted_numbers c.in_ok-ids.ids.items now c.sort_unstable.ensures.permutation
    (IsNonDecreasingBy-from_sort (λ n. n) now c.sort_unstable.ensures.sorted)
    ∙ ap (sorted_by (λ n. n)) c.in_ok-ids.ensures

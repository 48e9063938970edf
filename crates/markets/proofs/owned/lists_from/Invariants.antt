use Rattle.std.proofs.Common.{◌≡◌, map}
use Rattle.admit_core.specs.Lists.{sorted_by}
use Rattle.markets.proofs.owned.lists_from.Given as goal

abbrev pub invariant-loop-row : goal.invariant-loop-row
invariant-loop-row l =
    l.lists.items ≡ map (λ row. map (λ x. x.programme) (sorted_by (λ x. x.preference) row.items)) l.yielded

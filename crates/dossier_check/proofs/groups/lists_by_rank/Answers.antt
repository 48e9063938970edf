use Rattle.std.proofs.Common.{◌≡◌, All, subst}
use Rattle.admit_core.specs.Lists.{sorted_by}
use Rattle.dossier_check.proofs.BuiltGroups.{by_rank_already}
use Rattle.dossier_check.proofs.groups.lists_by_rank.Goals as goal

pub returns-then-are_by_rank : goal.returns-then-are_by_rank
returns-then-are_by_rank c =
    by_rank_already (λ l. l.items) c.args.rankings.now c.args.groups.now.keys c.args.lists.items
    (subst (All (λ l. l.items ≡ sorted_by (λ r. r.rank) l.items)) c.as_slice.ensures.value
    (c.are_by_rank.ensures c.if-are_by_rank.true))
    c.requires.lists

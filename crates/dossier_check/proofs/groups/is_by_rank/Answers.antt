use Rattle.std.proofs.Common.{◌≡◌, nat_le, rules}
use Rattle.std.proofs.lemmas.List.Sorted.{answers_always}
use Rattle.dossier_check.proofs.Rising.{ordered_by}
use Rattle.dossier_check.proofs.groups.is_by_rank.Goals as goal

pub returns : goal.returns
returns c =
    ordered_by (λ r. r.rank) c.args.list.now c.is_sorted_by.result
    (c.is_sorted_by.ensures.cases (λ r q. nat_le r.rank q.rank)
    (answers_always _ (λ a r. r ≡ nat_le a.0.now.rank a.1.0.now.rank) _ (λ f a r q k. search rules)))

use Rattle.std.proofs.Common.{◌≡◌, nat_lt, rules}
use Rattle.std.proofs.lemmas.List.Sorted.{answers_always}
use Rattle.dossier_check.proofs.Rising.{keys_rise}
use Rattle.dossier_check.proofs.ranks.ranks_rise.Goals as goal

pub returns : goal.returns
returns c =
    keys_rise (λ r. r.rank) c.args.list.now c.is_sorted_by.result
    (c.is_sorted_by.ensures.cases (λ r q. nat_lt r.rank q.rank)
    (answers_always _ (λ a r. r ≡ nat_lt a.0.now.rank a.1.0.now.rank) _ (λ f a r q k. search rules)))

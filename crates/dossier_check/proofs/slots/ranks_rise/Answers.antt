use Rattle.std.proofs.Common.{◌≡◌, nat_lt, rules}
use Rattle.std.proofs.lemmas.List.Sorted.{answers_always}
use Rattle.dossier_check.proofs.BoardRanks.{ranked, ranks_apart}
use Rattle.dossier_check.proofs.slots.ranks_rise.Goals as goal

pub returns : goal.returns
returns c =
    ranks_apart c.args.rows.now c.is_sorted_by.result
    (c.is_sorted_by.ensures.cases (λ r q. nat_lt (ranked r) (ranked q))
    (answers_always _ (λ a r. r ≡ nat_lt (ranked a.0.now) (ranked a.1.0.now)) _ (λ f a r q k. search rules)))

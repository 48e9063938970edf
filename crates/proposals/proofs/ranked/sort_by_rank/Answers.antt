use Rattle.std.proofs.Common.{rules}
use Rattle.std.proofs.lemmas.List.Sorted.{IsNonDecreasingBy-from_sort_by_key}
use Rattle.std.proofs.lemmas.Fn.{always_returns_same}
use Rattle.proposals.proofs.ranked.sort_by_rank.Goals as goal

pub returns-clause-rises : goal.returns-clause-rises
returns-clause-rises g c =
    IsNonDecreasingBy-from_sort_by_key g.T.Ranked.rank_of _ c.in_ok-sort_by_key.ensures.sorted (λ a r q k. search rules)

pub returns-clause-stable : goal.returns-clause-stable
returns-clause-stable g c = c.sort_by_key.ensures.stable g.T.Ranked.rank_of
    (always_returns_same _ _ _ (λ a r q k. search rules))

use Rattle.std.proofs.Common.{rules, ◌≡◌}
use Rattle.std.proofs.lemmas.List.Sorted.{IsNonDecreasingBy-from_sort_by_key, answers_always}
use Rattle.admit_core.proofs.SortedBy.{is_sorted_by}
use Rattle.markets.proofs.owned.sort_by_preference.Goals as goal

pub returns : goal.returns
returns c =
    is_sorted_by (λ r. r.preference) c.args.choices.now.items c.sort_by_key.new.self.items
    (IsNonDecreasingBy-from_sort_by_key (λ r. r.preference) _ c.in_ok-sort_by_key.ensures.sorted
    (λ a r q k. search rules))
    (c.in_ok-sort_by_key.ensures.stable (λ r. r.preference)
    (answers_always _ (λ a r. r ≡ a.0.now.preference) _ (λ f a r q k. search rules)))

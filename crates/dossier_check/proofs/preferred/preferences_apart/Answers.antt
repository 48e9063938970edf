use Rattle.std.proofs.Common.{◌≡◌, rules}
use Rattle.std.specs.Ordering.{is_lt}
use Rattle.std.proofs.lemmas.List.Sorted.{answers_always}
use Rattle.dossier_check.proofs.TwicePreferred.{preferred_cmp, no_preference_twice}
use Rattle.dossier_check.proofs.preferred.preferences_apart.Goals as goal

pub returns : goal.returns
returns c =
    no_preference_twice c.args.rows.now _ c.as_slice.result.now c.is_sorted_by.result c.in_ok-keys.ensures
    (rw c.as_slice.ensures.value c.sort_unstable.ensures.permutation)
    (c.is_sorted_by.ensures.cases (λ x y. is_lt (preferred_cmp x y))
    (answers_always _ (λ a r. r ≡ is_lt (preferred_cmp a.0.now a.1.0.now)) _ (λ f a r q k. search rules)))

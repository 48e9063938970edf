-- How many of those called, and of those who remain, pass a test.
use Rattle.std.proofs.Common.{ℕ, ◌+◌, ◌≡◌, Bool, cond, not, List, [], ◌∷◌, ◌++◌, map, length, length-append, refl, sym}
use Rattle.std.proofs.Common.{◌∙◌, arith, filter, Some, nat_eq, count_by}
use Rattle.std.specs.List.{find, IsDistinct}
use Rattle.std.proofs.lemmas.List.Sums.{sum_by-append, sum_by-cons}
use Rattle.std.proofs.lemmas.List.Sorted.{IsPermutation-filter_both, length_permutation, sum_by-IsPermutation}
use Rattle.admit_core.specs.declared.ranking.Ranked.{Ranked}
use Rattle.admit_core.specs.declared.ranking.RankGroup.{RankGroup}
use Rattle.admit_core.specs.Lists.{is_among}
use Rattle.admit_core.specs.CallOrder.{called, remaining}
use Rattle.admit_core.proofs.NextCalls.{remaining_push}
use Rattle.admit_core.proofs.OrderPermutes.{permutation_without, distinct_filter}

-- those called and those who remain are the ranking
pub count_parts : (q : Ranked → Bool) (g : RankGroup) (before : List ℕ)
    → count_by q (called g before) + count_by q (remaining g before) ≡ count_by q g.list
count_parts q g before =
    let is_called = λ (r : Ranked). is_among r.candidate before in
    let remains = λ (r : Ranked). not (is_among r.candidate before) in
    let one = λ (r : Ranked). cond (q r) 1 0 in
    sym (sum_by-append one (filter is_called g.list) (filter remains g.list))
    ∙ sum_by-IsPermutation one g.list (filter is_called g.list ++ filter remains g.list)
    (IsPermutation-filter_both is_called remains (λ r. refl) g.list)

pub length-parts : (g : RankGroup) (before : List ℕ)
    → length (called g before) + length (remaining g before) ≡ length g.list
length-parts g before =
    let is_called = λ (r : Ranked). is_among r.candidate before in
    let remains = λ (r : Ranked). not (is_among r.candidate before) in
    sym (length-append (filter is_called g.list) (filter remains g.list))
    ∙ length_permutation g.list (filter is_called g.list ++ filter remains g.list)
    (IsPermutation-filter_both is_called remains (λ r. refl) g.list)

-- with each call one more was called, and one fewer remains
pub count_remaining_push : (q test : Ranked → Bool) (g : RankGroup) (before : List ℕ) (r : Ranked)
    → IsDistinct nat_eq (map (λ (x : Ranked). x.candidate) g.list)
    → find test (remaining g before) ≡ Some r
    → cond (q r) 1 0 + count_by q (remaining g (before ++ r.candidate ∷ [])) ≡ count_by q (remaining g before)
count_remaining_push q test g before r apart found =
    let key = λ (x : Ranked). x.candidate in
    let rs = remaining g before in
    let one = λ (x : Ranked). cond (q x) 1 0 in
    let others = filter (λ (x : Ranked). not (nat_eq x.candidate r.candidate)) rs in
    let still = distinct_filter key (λ (x : Ranked). not (is_among x.candidate before)) g.list apart in
    rw (remaining_push g before r.candidate)
    (sym (sum_by-cons one r others) ∙ sum_by-IsPermutation one rs (r ∷ others)
    (permutation_without key test rs r still found))

pub count_called_push : (q test : Ranked → Bool) (g : RankGroup) (before : List ℕ) (r : Ranked)
    → IsDistinct nat_eq (map (λ (x : Ranked). x.candidate) g.list)
    → find test (remaining g before) ≡ Some r
    → count_by q (called g (before ++ r.candidate ∷ [])) ≡ count_by q (called g before) + cond (q r) 1 0
count_called_push q test g before r apart found =
    let parts = count_parts q g before in
    let after = count_parts q g (before ++ r.candidate ∷ []) in
    let fewer = count_remaining_push q test g before r apart found in
    omega (arith, parts, after, fewer)

-- Each ranking has exactly one call order.
use Rattle.std.proofs.Common.{ℕ, zero, suc, ◌<◌, ◌≡◌, List, [], ◌∷◌, ◌++◌, map, length, take, refl, sym, ◌∙◌, ap, arith}
use Rattle.std.proofs.Common.{Option, Some, None}
use Rattle.std.specs.Prelude.{slice_get, zip}
use Rattle.std.proofs.lemmas.List.{append_assoc}
use Rattle.admit_core.specs.declared.ranking.RankGroup.{RankGroup}
use Rattle.admit_core.specs.declared.ranking.Bound.{Bound}
use Rattle.admit_core.specs.declared.ranking.CallOrder.{CallOrder}
use Rattle.admit_core.specs.CallOrder.{remaining, next_after, IsCallOrder}
use Rattle.admit_core.specs.CallOrderLaws.{EachRankingHasOneOrder}
use Rattle.admit_core.proofs.Calls.{CallsSoFar, calls_none, calls_push, calls_done}
use Rattle.admit_core.proofs.Remaining.{remaining_falls}

-- the calls with their bounds, each of which is the next one after those before it
Follows : (List ℕ → Option (ℕ × Bound)) → List ℕ → List (ℕ × Bound) → Type 0
Follows next before calls = (k : ℕ) → next (before ++ take k (map (λ (x : ℕ × Bound). x.0) calls)) ≡ slice_get calls k

follows_tail : (next : List ℕ → Option (ℕ × Bound)) (before : List ℕ) (x : ℕ × Bound) (calls : List (ℕ × Bound))
    → Follows next before (x ∷ calls) → Follows next (before ++ x.0 ∷ []) calls
unfolding Follows
follows_tail next before x calls each k = rw append_assoc (each (suc k))

same_calls : (next : List ℕ → Option (ℕ × Bound)) (before : List ℕ) (xs ys : List (ℕ × Bound)) → Follows next before xs
    → Follows next before ys → xs ≡ ys
unfolding Follows
same_calls next before [] [] one other = refl
same_calls next before [] (y ∷ ys) one other = let never = sym (one 0) ∙ other 0 in (cc)
same_calls next before (x ∷ xs) [] one other = let never = sym (one 0) ∙ other 0 in (cc)
same_calls next before (x ∷ xs) (y ∷ ys) one other =
    let first = sym (one 0) ∙ other 0 in
    let same : x ≡ y = (cc) in
    let rest = same_calls next (before ++ x.0 ∷ []) xs ys (follows_tail next before x xs one)
    (rw (← same) at (follows_tail next before y ys other)) in
    (cc)

firsts : {A B : Type 0} (xs : List A) (ys : List B) → length ys ≡ length xs → map (λ (x : A × B). x.0) (zip xs ys) ≡ xs
firsts [] ys e = refl
firsts (x ∷ xs) [] e = absurd (omega arith)
firsts (x ∷ xs) (y ∷ ys) e = ap (λ zs. x ∷ zs) (firsts xs ys (omega arith))

seconds : {A B : Type 0} (xs : List A) (ys : List B) → length ys ≡ length xs → map (λ (x : A × B). x.1) (zip xs ys) ≡ ys
seconds [] [] e = refl
seconds [] (y ∷ ys) e = absurd (omega arith)
seconds (x ∷ xs) [] e = absurd (omega arith)
seconds (x ∷ xs) (y ∷ ys) e = ap (λ zs. y ∷ zs) (seconds xs ys (omega arith))

follows : (g : RankGroup) (order : CallOrder) → IsCallOrder g order
    → Follows (next_after g) [] (zip order.list order.trace)
unfolding Follows
follows g order calls k = rw (firsts order.list order.trace calls.as_long) (calls.each_next k)

order_of_calls : List (ℕ × Bound) → CallOrder
order_of_calls calls = record { list = map (λ (x : ℕ × Bound). x.0) calls; trace = map (λ (x : ℕ × Bound). x.1) calls }

remade : (g : RankGroup) (order : CallOrder) → IsCallOrder g order → order_of_calls (zip order.list order.trace) ≡ order
unfolding order_of_calls
remade g order calls = rw (firsts order.list order.trace calls.as_long, seconds order.list order.trace calls.as_long)
    refl

-- two call orders of one group are the same
pub same_order : (g : RankGroup) (one other : CallOrder) → IsCallOrder g one → IsCallOrder g other → one ≡ other
same_order g one other calls others =
    let same = same_calls (next_after g) [] (zip one.list one.trace) (zip other.list other.trace) (follows g one calls)
    (follows g other others) in
    sym (remade g one calls) ∙ ap order_of_calls same ∙ remade g other others

Found : RankGroup → Type 0
Found g = (order : CallOrder) × IsCallOrder g order

by_next : (g : RankGroup) (list : List ℕ) (trace : List Bound) → CallsSoFar g list trace
    → ((c : ℕ) (b : Bound) → next_after g list ≡ Some (c, b) → Found g) → (o : Option (ℕ × Bound))
    → next_after g list ≡ o → Found g
unfolding Found
by_next g list trace so_far more None e = (record { list = list; trace = trace }, calls_done g list trace so_far e)
by_next g list trace so_far more (Some x) e = more x.0 x.1 e

find_order : (g : RankGroup) (steps : ℕ) (list : List ℕ) (trace : List Bound) → CallsSoFar g list trace
    → length (remaining g list) < steps → Found g
find_order g zero list trace so_far lt = absurd (omega arith)
find_order g (suc steps) list trace so_far lt =
    by_next g list trace so_far
    (λ c b e. find_order g steps (list ++ c ∷ []) (trace ++ b ∷ []) (calls_push g list trace c b so_far e)
    (omega (arith, remaining_falls g list c b e)))
    (next_after g list) refl

pub one_order : EachRankingHasOneOrder
unfolding Found
one_order g ranking =
    let (order, calls) = find_order g (suc (length (remaining g []))) [] [] (calls_none g) (omega arith) in
    (order, calls, λ other others. same_order g other order others calls)

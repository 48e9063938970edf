use Rattle.std.proofs.Common.{◌≡◌, ◌≤◌, ℕ, Bool, true, false, List, nat_le, arith, rules}
use Rattle.std.specs.List.{IsAllAdjacentAnswer}
use Rattle.std.specs.List.Sorted.{IsNonDecreasingBy}
use Rattle.std.proofs.lemmas.Bool.{false≢true}
use Rattle.std.proofs.lemmas.Bool.Decides.{nat_tests}
use Rattle.std.proofs.lemmas.List.Sorted.{IsNonDecreasingBy-from_all_adjacent, answers_always}
use Rattle.admit_core.specs.declared.dossier.Wish.{Wish}
use Rattle.day_state.proofs.index.candidates_rise.Goals as goal

no_more : (m n : ℕ) → true ≡ nat_le m n → m ≤ n
no_more m n e = grind (arith, nat_tests)

rising : (ws : List Wish) (r : Bool) → IsAllAdjacentAnswer (λ v w b. b ≡ nat_le v.candidate w.candidate) ws r
    → r ≡ true → IsNonDecreasingBy (λ w. w.candidate) ws
rising ws false below e = absurd (false≢true e)
rising ws true below e =
    IsNonDecreasingBy-from_all_adjacent (λ w. w.candidate) ws (λ k d lt. no_more _ _ (below k d lt))

pub returns : goal.returns
returns c =
    rising c.args.wishes.now c.is_sorted_by.result
    (c.is_sorted_by.ensures.cases (λ v w. nat_le v.candidate w.candidate)
    (answers_always _ (λ a r. r ≡ nat_le a.0.now.candidate a.1.0.now.candidate) _ (λ f a r q k. search rules)))

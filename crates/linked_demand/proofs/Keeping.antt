-- What a filter keeps of one more.
use Rattle.std.proofs.Common.{ℕ, ◌+◌, ◌<◌, ◌≡◌, Bool, true, false, List, [], ◌∷◌, ◌++◌, refl, sym, ◌∙◌, ap, arith}
use Rattle.std.proofs.Common.{filter, subst}
use Rattle.std.specs.Prelude.{All}
use Rattle.std.specs.List.{range_with_len}
use Rattle.std.proofs.lemmas.List.Elements.{All-filter, filter-append}
use Rattle.std.proofs.lemmas.List.FromFn.{get_or-range_with_len, length-range_with_len}
use Rattle.day_state.proofs.Ordering.{range_more}

pub add_none : {X : Type 0} (xs : List X) → xs ≡ xs ++ []
add_none [] = refl
add_none {X} (x ∷ xs) = ap (λ (ys : List X). x ∷ ys) (add_none xs)

one_kept : (p : ℕ → Bool) (x : ℕ) → p x ≡ true → filter p (x ∷ []) ≡ x ∷ []
one_kept p x passes = rw passes refl

one_left : (p : ℕ → Bool) (x : ℕ) → p x ≡ false → filter p (x ∷ []) ≡ []
one_left p x fails = rw fails refl

push_kept : (p : ℕ → Bool) (xs : List ℕ) (x : ℕ) → p x ≡ true → filter p (xs ++ x ∷ []) ≡ filter p xs ++ x ∷ []
push_kept p xs x passes = filter-append p xs (x ∷ []) ∙ ap (λ (ys : List ℕ). filter p xs ++ ys) (one_kept p x passes)

push_left : (p : ℕ → Bool) (xs : List ℕ) (x : ℕ) → p x ≡ false → filter p (xs ++ x ∷ []) ≡ filter p xs
push_left p xs x fails = filter-append p xs (x ∷ [])
    ∙ ap (λ (ys : List ℕ). filter p xs ++ ys) (one_left p x fails) ∙ sym (add_none (filter p xs))

-- of a range
pub range_kept : (p : ℕ → Bool) (n : ℕ) → p n ≡ true
    → filter p (range_with_len 0 (n + 1)) ≡ filter p (range_with_len 0 n) ++ n ∷ []
range_kept p n passes = ap (filter p) (range_more 0 n n (omega arith)) ∙ push_kept p (range_with_len 0 n) n passes

pub range_left : (p : ℕ → Bool) (n : ℕ) → p n ≡ false
    → filter p (range_with_len 0 (n + 1)) ≡ filter p (range_with_len 0 n)
range_left p n fails = ap (filter p) (range_more 0 n n (omega arith)) ∙ push_left p (range_with_len 0 n) n fails

-- places below a count that pass a test are below it
pub passing_within : (q : ℕ → Bool) (n : ℕ) (ks : List ℕ) → ks ≡ filter q (range_with_len 0 n) → All (λ k. k < n) ks
passing_within q n ks is =
    let P = λ (js : List ℕ). All (λ k. k < n) js in
    let many = length-range_with_len 0 n in
    subst P (sym is)
    (All-filter q (λ k. k < n) (range_with_len 0 n)
    (λ j e lt. omega (arith, get_or-range_with_len 0 n j e (omega (arith, lt, many)), lt, many)))

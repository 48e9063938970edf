-- In how many places something was held and no longer is.
use Rattle.std.proofs.Common.{ℕ, ◌+◌, ◌≤◌, ◌<◌, ◌≡◌, Bool, true, false, cond, not, ◌&&◌, List, [], ◌∷◌, length, inl}
use Rattle.std.proofs.Common.{inr, refl, sym, ◌∙◌, ap, arith, filter, zero, suc}
use Rattle.std.specs.Prelude.{count_by}
use Rattle.std.specs.List.{range_with_len}
use Rattle.std.proofs.lemmas.Bool.{cases_eq}
use Rattle.std.proofs.lemmas.List.Sums.{length-filter, count_by-le-length}
use Rattle.std.proofs.lemmas.List.FromFn.{length-range_with_len}
use Rattle.day_state.specs.Kept.{one_if}

-- the places below n that passed and no longer pass
abbrev pub lost_in : (ℕ → Bool) → (ℕ → Bool) → ℕ → ℕ
lost_in had has n = count_by (λ k. had k && not (has k)) (range_with_len 0 n)

-- what passes now passed before
abbrev pub Falls : (ℕ → Bool) → (ℕ → Bool) → Type 0
Falls had has = (k : ℕ) → has k ≡ true → had k ≡ true

gone : (a b : Bool) → b ≡ a → (a && not b) ≡ false
gone true true e = refl
gone true false e = absurd (cc)
gone false b e = refl

-- from above a place on, none passes
none_above : (p : ℕ → Bool) (k a n : ℕ) → k < a → ((j : ℕ) → (j ≡ k → ⊥) → p j ≡ false)
    → filter p (range_with_len a n) ≡ []
none_above p k a zero lt other = refl
none_above p k a (suc n) lt other = rw (other a (λ e. omega arith)) (none_above p k (a + 1) n (omega arith) other)

one_here : (b : Bool) (k : ℕ) (xs : List ℕ) → xs ≡ [] → length (cond b (k ∷ xs) xs) ≡ one_if b
one_here true k xs e = rw e refl
one_here false k xs e = rw e refl

-- where at most one place passes
passed_one : (p : ℕ → Bool) (k a n : ℕ) → a ≤ k → k < a + n → ((j : ℕ) → (j ≡ k → ⊥) → p j ≡ false)
    → length (filter p (range_with_len a n)) ≡ one_if (p k)
passed_one p k a zero le lt other = absurd (omega arith)
passed_one p k a (suc n) le lt other =
    elim (cases_eq a k) [
      | inl same ↦ rw same (one_here (p k) k (filter p (range_with_len (k + 1) n))
          (none_above p k (k + 1) n (omega arith) other))
      | inr differs ↦ rw (other a differs) (passed_one p k (a + 1) n (omega arith) (omega arith) other)
    ]

none_pass : (p : ℕ → Bool) → ((k : ℕ) → p k ≡ false) → (ks : List ℕ) → filter p ks ≡ []
none_pass p none [] = refl
none_pass p none (k ∷ ks) = rw (none k) (none_pass p none ks)

add_step : (a b c : Bool) → (b ≡ true → a ≡ true) → (c ≡ true → b ≡ true) → (k : ℕ) (us vs ws : List ℕ)
    → length us ≡ length vs + length ws
    → length (cond (a && not c) (k ∷ us) us)
    ≡ length (cond (a && not b) (k ∷ vs) vs) + length (cond (b && not c) (k ∷ ws) ws)
add_step true true true f g k us vs ws e = e
add_step true true false f g k us vs ws e = omega arith
add_step true false true f g k us vs ws e = absurd (let h = g refl in cc)
add_step true false false f g k us vs ws e = omega arith
add_step false true c f g k us vs ws e = absurd (let h = f refl in cc)
add_step false false true f g k us vs ws e = absurd (let h = g refl in cc)
add_step false false false f g k us vs ws e = e

passed_add : (p q r : ℕ → Bool) → Falls p q → Falls q r → (ks : List ℕ)
    → length (filter (λ k. p k && not (r k)) ks)
    ≡ length (filter (λ k. p k && not (q k)) ks) + length (filter (λ k. q k && not (r k)) ks)
passed_add p q r f g [] = refl
passed_add p q r f g (k ∷ ks) =
    add_step (p k) (q k) (r k) (f k) (g k) k (filter (λ j. p j && not (r j)) ks) (filter (λ j. p j && not (q j)) ks)
    (filter (λ j. q j && not (r j)) ks) (passed_add p q r f g ks)

-- nothing is lost where nothing changes
pub lost_none : (had has : ℕ → Bool) (n : ℕ) → ((k : ℕ) → has k ≡ had k) → lost_in had has n ≡ 0
lost_none had has n same =
    let p = λ (k : ℕ). had k && not (has k) in
    sym (length-filter p (range_with_len 0 n))
    ∙ ap length (none_pass p (λ k. gone (had k) (has k) (same k)) (range_with_len 0 n))

-- where the change is at one place
pub lost_one : (had has : ℕ → Bool) (n k : ℕ) → k < n → ((j : ℕ) → (j ≡ k → ⊥) → has j ≡ had j)
    → lost_in had has n ≡ one_if (had k && not (has k))
lost_one had has n k lt same =
    let p = λ (j : ℕ). had j && not (has j) in
    sym (length-filter p (range_with_len 0 n))
    ∙ passed_one p k 0 n (omega arith) (omega arith) (λ j other. gone (had j) (has j) (same j other))

-- two falls after one another lose what each of them does
pub lost_both : (start now next : ℕ → Bool) (n : ℕ) → Falls start now → Falls now next
    → lost_in start next n ≡ lost_in start now n + lost_in now next n
lost_both start now next n f g =
    let ks = range_with_len 0 n in
    omega (
      arith,
      length-filter (λ k. start k && not (next k)) ks,
      length-filter (λ k. start k && not (now k)) ks,
      length-filter (λ k. now k && not (next k)) ks,
      passed_add start now next f g ks,
    )

pub lost_at_most : (had has : ℕ → Bool) (n : ℕ) → lost_in had has n ≤ n
lost_at_most had has n = omega (
  arith,
  count_by-le-length (λ k. had k && not (has k))
      (range_with_len 0 n),
  length-range_with_len 0 n,
)

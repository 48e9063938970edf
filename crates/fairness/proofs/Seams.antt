-- Who stands before a candidate in a list, and before others when two neighbours change places.
use Rattle.std.proofs.Common.{ℕ, suc, ◌+◌, ◌≡◌, Bool, true, false, cond, List, [], ◌∷◌, ◌++◌, length, take, inl, inr}
use Rattle.std.proofs.Common.{refl, ◌∙◌, ap, arith, nat_eq, count_by}
use Rattle.std.specs.List.{IsDistinct, before_first, position_or_len}
use Rattle.std.proofs.lemmas.Bool.{cases_Bool, eq-eqb, or_parts}
use Rattle.std.proofs.lemmas.List.Sums.{sum_by-cons}
use Rattle.std.proofs.Math.Seq.{take-append_seam}
use Rattle.admit_core.specs.Lists.{is_among}
use Rattle.admit_core.proofs.CallRows.{not_among_front}
use Rattle.admit_core.proofs.Plain.{get_seam}

pub one_more : (n : ℕ) → 1 + n ≡ suc n
one_more n = omega arith

-- those before a candidate, one after another
before_step : (e x : ℕ) (xs : List ℕ) → before_first (nat_eq e) (x ∷ xs)
    ≡ cond (nat_eq e x) [] (x ∷ before_first (nat_eq e) xs)
before_step e x xs =
    elim (cases_Bool (nat_eq e x)) [
      | inl here ↦ rw here refl
      | inr other ↦ rw other (further x xs (position_or_len (nat_eq e) xs))
    ] where
      further : (x : ℕ) (xs : List ℕ) (n : ℕ) → take (1 + n) (x ∷ xs) ≡ x ∷ take n xs
      further x xs n = rw (one_more n) refl

-- before the first place of a candidate stands the prefix `front`
pub before_at : (front back : List ℕ) (c : ℕ) → is_among c front ≡ false
    → before_first (nat_eq c) (front ++ c ∷ back) ≡ front
before_at [] back c none = before_step c c back ∙ rw (eq-eqb c c refl) refl
before_at (x ∷ front) back c none =
    let parts = or_parts (nat_eq c x) (is_among c front) none in
    before_step c x (front ++ c ∷ back) ∙ rw parts.0 (ap (λ l. x ∷ l) (before_at front back c parts.1))

-- as many, of whatever kind
pub record CountAlike (xs ys : List ℕ) : Type 0 where
  pub long : length xs ≡ length ys
  pub counts : (t : ℕ → Bool) → count_by t xs ≡ count_by t ys

alike_refl : (xs : List ℕ) → CountAlike xs xs
alike_refl xs = record { long = refl; counts = λ t. refl }

alike_step : (b : Bool) (x : ℕ) (xs ys : List ℕ) → CountAlike xs ys
    → CountAlike (cond b [] (x ∷ xs)) (cond b [] (x ∷ ys))
alike_step true x xs ys alike = alike_refl []
alike_step false x xs ys alike = record {
  long = omega (arith, alike.long);
  counts = λ t.
      let one : ℕ → ℕ = λ y. cond (t y) 1 0 in
      omega (arith, sum_by-cons one x xs, sum_by-cons one x ys, alike.counts t);
}

alike_swap : (x y : ℕ) (zs : List ℕ) → CountAlike (x ∷ y ∷ zs) (y ∷ x ∷ zs)
alike_swap x y zs = record {
  long = omega arith;
  counts = λ t.
      let one : ℕ → ℕ = λ z. cond (t z) 1 0 in
      omega (arith, sum_by-cons one x (y ∷ zs), sum_by-cons one y zs, sum_by-cons one y (x ∷ zs), sum_by-cons one x zs);
}

-- before others stand as many as before when two neighbours have changed places
pub before_others : (front back : List ℕ) (a c e : ℕ) → nat_eq e a ≡ false → nat_eq e c ≡ false
    → CountAlike (before_first (nat_eq e) (front ++ a ∷ c ∷ back)) (before_first (nat_eq e) (front ++ c ∷ a ∷ back))
before_others [] back a c e not_a not_c =
    rw (
      before_step e a (c ∷ back),
      before_step e c back,
      before_step e c
          (a ∷ back),
      before_step e a back,
      not_a,
      not_c,
    ) (alike_swap a c (before_first (nat_eq e) back))
before_others (x ∷ front) back a c e not_a not_c =
    rw (before_step e x (front ++ a ∷ c ∷ back), before_step e x (front ++ c ∷ a ∷ back))
    (alike_step (nat_eq e x) x (before_first (nat_eq e) (front ++ a ∷ c ∷ back))
    (before_first (nat_eq e) (front ++ c ∷ a ∷ back)) (before_others front back a c e not_a not_c))

-- in a list that has nobody twice, who stands behind a prefix is not in it
pub not_in_front_of : (front back : List ℕ) (x : ℕ) → IsDistinct nat_eq (front ++ x ∷ back) → is_among x front ≡ false
not_in_front_of front back x once =
    rw take-append_seam at (not_among_front (front ++ x ∷ back) (length front) (length front) x once
    (get_seam front back x) (omega arith))

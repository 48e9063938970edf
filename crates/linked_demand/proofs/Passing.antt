-- Where an element that passes a test stands among those that do.
use Rattle.std.proofs.Common.{ℕ, zero, suc, ◌+◌, ◌≤◌, ◌<◌, ◌≡◌, Bool, true, false, not, List, [], ◌∷◌, length, filter}
use Rattle.std.proofs.Common.{take, drop, inl, inr, refl, sym, ◌∙◌, ap, arith, Option, Some, unwrap_or}
use Rattle.std.specs.Prelude.{slice_get}
use Rattle.std.proofs.lemmas.Bool.{cases_Bool}
use Rattle.std.proofs.lemmas.Option.{slice_get_within}

module _ {X : Type 0} (q : X → Bool) where
  -- how many of the first ones pass
  abbrev pub passing : List X → ℕ → ℕ
  passing xs n = length (filter q (take n xs))

  pub passing_at : (xs : List X) (n : ℕ) (x : X) → slice_get xs n ≡ Some x → q x ≡ true
      → slice_get (filter q xs) (passing xs n) ≡ Some x
  passing_at [] n x at pass = absurd (omega (arith, slice_get_within {A = X} [] n x at))
  passing_at (y ∷ xs) zero x at pass =
      let same : y ≡ x = ap (λ (o : Option X). unwrap_or o y) at in
      rw (ap q same ∙ pass) at
  passing_at (y ∷ xs) (suc n) x at pass =
      elim (cases_Bool (q y)) [
        | inl kept ↦ rw kept (passing_at xs n x at pass)
        | inr dropped ↦ rw dropped (passing_at xs n x at pass)
      ]

  pub one_passes : (xs : List X) (n : ℕ) (x : X) → slice_get xs n ≡ Some x → q x ≡ true
      → passing xs (suc n) ≡ suc (passing xs n)
  one_passes [] n x at pass = absurd (omega (arith, slice_get_within {A = X} [] n x at))
  one_passes (y ∷ xs) zero x at pass =
      let same : y ≡ x = ap (λ (o : Option X). unwrap_or o y) at in
      rw (ap q same ∙ pass) refl
  one_passes (y ∷ xs) (suc n) x at pass =
      elim (cases_Bool (q y)) [
        | inl kept ↦ rw kept (ap suc (one_passes xs n x at pass))
        | inr dropped ↦ rw dropped (one_passes xs n x at pass)
      ]

  -- the same of the number of the next one
  pub one_more : (xs : List X) (n m : ℕ) (x : X) → slice_get xs n ≡ Some x → m ≡ n + 1 → q x ≡ true
      → passing xs m ≡ passing xs n + 1
  one_more xs n m x at next pass =
      let m_is : m ≡ suc n = omega (arith, next) in
      let more : passing xs m ≡ suc (passing xs n) = ap (passing xs) m_is ∙ one_passes xs n x at pass in
      omega (arith, more)

  -- those of the first ones are the first ones of those
  pub passing_front : (xs : List X) (n : ℕ) → filter q (take n xs) ≡ take (passing xs n) (filter q xs)
  passing_front [] zero = refl
  passing_front [] (suc n) = refl
  passing_front (y ∷ xs) zero = refl
  passing_front (y ∷ xs) (suc n) =
      elim (cases_Bool (q y)) [
        | inl kept ↦ rw kept (ap (λ (ys : List X). y ∷ ys) (passing_front xs n))
        | inr dropped ↦ rw dropped (passing_front xs n)
      ]

  pub passing_most : (xs : List X) (n : ℕ) → passing xs n ≤ length (filter q xs)
  passing_most [] zero = omega arith
  passing_most [] (suc n) = omega arith
  passing_most (y ∷ xs) zero = omega arith
  passing_most (y ∷ xs) (suc n) =
      let later = passing_most xs n in
      elim (cases_Bool (q y)) [
        | inl kept ↦ rw kept (omega (arith, later))
        | inr dropped ↦ rw dropped later
      ]

  pub passing_all : (xs : List X) (n : ℕ) → length xs ≤ n → passing xs n ≡ length (filter q xs)
  passing_all [] zero le = refl
  passing_all [] (suc n) le = refl
  passing_all (y ∷ xs) zero le = absurd (omega (arith, le))
  passing_all (y ∷ xs) (suc n) le =
      let later = passing_all xs n (omega (arith, le)) in
      elim (cases_Bool (q y)) [
        | inl kept ↦ rw kept (ap suc later)
        | inr dropped ↦ rw dropped later
      ]

  -- one that passes stands in the list
  pub passing_from : (xs : List X) (k : ℕ) (x : X) → slice_get (filter q xs) k ≡ Some x
      → (j : ℕ) × (k ≤ j) × (slice_get xs j ≡ Some x)
  passing_from [] k x at = absurd (omega (arith, slice_get_within {A = X} [] k x at))
  passing_from (y ∷ xs) k x at =
      elim (cases_Bool (q y)) [
        | inl kept ↦ first (λ i. passing_from xs i x) k (rw kept at at)
        | inr dropped ↦
            let (j, le, found) = passing_from xs k x (rw dropped at at) in
            (suc j, omega (arith, le), found)
      ]
    where
      first : ((i : ℕ) → slice_get (filter q xs) i ≡ Some x → (j : ℕ) × (i ≤ j) × (slice_get xs j ≡ Some x))
          → (i : ℕ) → slice_get (y ∷ filter q xs) i ≡ Some x
          → (j : ℕ) × (i ≤ j) × (slice_get (y ∷ xs) j ≡ Some x)
      first rest zero here = (0, omega arith, here)
      first rest (suc i) later =
          let (j, le, found) = rest i later in
          (suc j, omega (arith, le), found)

  -- and behind the first ones where so many pass before it
  pub passing_behind : (xs : List X) (n k : ℕ) (x : X) → slice_get (filter q xs) k ≡ Some x → passing xs n ≤ k
      → (j : ℕ) × (n ≤ j) × (slice_get xs j ≡ Some x)
  passing_behind [] n k x at le = absurd (omega (arith, slice_get_within {A = X} [] k x at))
  passing_behind (y ∷ xs) zero k x at le =
      let (j, _, found) = passing_from (y ∷ xs) k x at in
      (j, omega arith, found)
  passing_behind (y ∷ xs) (suc n) k x at le =
      elim (cases_Bool (q y)) [
        | inl kept ↦ later (λ i. passing_behind xs n i x) k (rw kept at at) (rw kept at le)
        | inr dropped ↦
            let (j, far, found) = passing_behind xs n k x (rw dropped at at) (rw dropped at le) in
            (suc j, omega (arith, far), found)
      ]
    where
      later : ((i : ℕ) → slice_get (filter q xs) i ≡ Some x → passing xs n ≤ i
          → (j : ℕ) × (n ≤ j) × (slice_get xs j ≡ Some x))
          → (i : ℕ) → slice_get (y ∷ filter q xs) i ≡ Some x → suc (passing xs n) ≤ i
          → (j : ℕ) × (suc n ≤ j) × (slice_get (y ∷ xs) j ≡ Some x)
      later rest zero here above = absurd (omega (arith, above))
      later rest (suc i) there above =
          let (j, far, found) = rest i there (omega (arith, above)) in
          (suc j, omega (arith, far), found)

  -- where the first ones alone pass, they are those that do, and the others those that do not
  pub front_passes : (xs : List X) (n : ℕ)
      → ((k : ℕ) (x : X) → k < n → slice_get xs k ≡ Some x → q x ≡ true)
      → ((k : ℕ) (x : X) → n ≤ k → slice_get xs k ≡ Some x → q x ≡ false)
      → (take n xs ≡ filter q xs) × (drop n xs ≡ filter (λ x. not (q x)) xs)
  front_passes [] zero before behind = (refl, refl)
  front_passes [] (suc n) before behind = (refl, refl)
  front_passes (y ∷ xs) zero before behind =
      let fails : q y ≡ false = behind 0 y (omega arith) refl in
      let later = front_passes xs 0 (λ k x lt at. absurd (omega (arith, lt)))
      (λ k x le at. behind (suc k) x (omega arith) at) in
      rw fails (later.0, ap (λ (ys : List X). y ∷ ys) (sym (drop_none xs) ∙ later.1))
    where
      drop_none : (zs : List X) → drop 0 zs ≡ zs
      drop_none [] = refl
      drop_none (z ∷ zs) = refl
  front_passes (y ∷ xs) (suc n) before behind =
      let passes : q y ≡ true = before 0 y (omega arith) refl in
      let later = front_passes xs n (λ k x lt at. before (suc k) x (omega (arith, lt)) at)
      (λ k x le at. behind (suc k) x (omega (arith, le)) at) in
      rw passes (ap (λ (ys : List X). y ∷ ys) later.0, later.1)

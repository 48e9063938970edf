-- What is made of those who pass a test.
use Rattle.std.proofs.Common.{ℕ, ◌+◌, ◌<◌, ◌≡◌, Bool, true, false, List, [], ◌∷◌, map, length, get_or, take, ◌++◌, inl}
use Rattle.std.proofs.Common.{inr, refl, ap, filter}
use Rattle.std.proofs.lemmas.Bool.{cases_Bool}
use Rattle.std.proofs.lemmas.List.{take_more}

-- one more that passes a test, or fails it, in what is made of those who pass
picked_last : {X : Type 0} (p : ℕ → Bool) (f : ℕ → X) (xs : List ℕ) (x : ℕ) → p x ≡ true
    → map f (filter p (xs ++ x ∷ [])) ≡ map f (filter p xs) ++ f x ∷ []
picked_last p f [] x passes = rw passes refl
picked_last {X} p f (y ∷ ys) x passes =
    let later = picked_last p f ys x passes in
    elim (cases_Bool (p y)) [
      | inl here ↦ rw here (ap (λ (zs : List X). f y ∷ zs) later)
      | inr not_here ↦
          rw not_here later
    ]

left_last : {X : Type 0} (p : ℕ → Bool) (f : ℕ → X) (xs : List ℕ) (x : ℕ) → p x ≡ false
    → map f (filter p (xs ++ x ∷ [])) ≡ map f (filter p xs)
left_last p f [] x fails = rw fails refl
left_last {X} p f (y ∷ ys) x fails =
    let later = left_last p f ys x fails in
    elim (cases_Bool (p y)) [
      | inl here ↦ rw here (ap (λ (zs : List X). f y ∷ zs) later)
      | inr not_here ↦
          rw not_here later
    ]

pub picked : {X : Type 0} (p : ℕ → Bool) (f : ℕ → X) (xs : List ℕ) (i : ℕ) → i < length xs → p (get_or xs i 0) ≡ true
    → map f (filter p (take (i + 1) xs)) ≡ map f (filter p (take i xs)) ++ f (get_or xs i 0) ∷ []
picked p f xs i lt passes = rw (take_more xs i 0 lt) (picked_last p f (take i xs) (get_or xs i 0) passes)

pub passed_over : {X : Type 0} (p : ℕ → Bool) (f : ℕ → X) (xs : List ℕ) (i : ℕ) → i < length xs
    → p (get_or xs i 0) ≡ false
    → map f (filter p (take (i + 1) xs)) ≡ map f (filter p (take i xs))
passed_over p f xs i lt fails = rw (take_more xs i 0 lt) (left_last p f (take i xs) (get_or xs i 0) fails)

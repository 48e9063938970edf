-- Rows that are made by place.
use Rattle.std.proofs.Common.{ℕ, zero, suc, ◌+◌, ◌<◌, ◌≡◌, Bool, true, List, [], ◌∷◌, ◌++◌, length, map, take}
use Rattle.std.proofs.Common.{filter, get_or, inl, inr, ap, arith}
use Rattle.std.proofs.lemmas.Bool.{cases_Bool}
use Rattle.std.specs.List.{enumerate_from}
use Rattle.std.proofs.lemmas.List.{length-take-le, take_more}

module _ {X Y : Type 0} (made : ℕ × X → Y) where
  row_more : (n : ℕ) (xs : List X) (x : X) (j : ℕ) → n + length xs ≡ j
      → map made (enumerate_from n (xs ++ x ∷ [])) ≡ map made (enumerate_from n xs) ++ made (j, x) ∷ []
  row_more n [] x j e = let same : n ≡ j = omega (arith, e) in ap (λ k. made (k, x) ∷ []) same
  row_more n (y ∷ ys) x j e =
      ap (λ (l : List Y). made (n, y) ∷ l) (row_more (n + 1) ys x j (omega (arith, e)))

  -- the rows of the first items, after one more of them
  pub rows_more : (xs : List X) (k : ℕ) (d : X) → k < length xs
      → map made (enumerate_from 0 (take (k + 1) xs))
      ≡ map made (enumerate_from 0 (take k xs)) ++ made (k, get_or xs k d) ∷ []
  rows_more xs k d lt =
      let front : length (take k xs) ≡ k = length-take-le k xs (omega (arith, lt)) in
      rw (take_more xs k d lt) (row_more 0 (take k xs) (get_or xs k d) k (omega (arith, front)))

-- where an item passes, the rows of those that pass aren't none
pub some_row : {X Y : Type 0} (made : X → Y) (test : X → Bool) (xs : List X) (k : ℕ) (d : X) → k < length xs
    → test (get_or xs k d) ≡ true → map made (filter test xs) ≡ [] → ⊥
some_row made test [] k d lt passes none = absurd (omega (arith, lt))
some_row made test (x ∷ xs) zero d lt passes none = let found = rw passes at none in absurd (cc)
some_row made test (x ∷ xs) (suc k) d lt passes none =
    elim (cases_Bool (test x)) [
      | inl here ↦ let found = rw here at none in absurd (cc)
      | inr not_here ↦ some_row made test xs k d (omega (arith, lt)) passes (rw not_here at none)
    ]

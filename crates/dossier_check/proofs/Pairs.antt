-- Pairs of rows.
use Rattle.std.proofs.Common.{◌≡◌, ℕ, ◌<◌, Bool, true, false, List, [], ◌∷◌, length, map, get_or, sym, ◌∙◌, arith}
use Rattle.std.proofs.Common.{true≢false, inl, inr, ◌⊎◌, AllPairs}
use Rattle.std.proofs.lemmas.List.{get_or-map}
use Rattle.dossier_check.proofs.Firsts.{length-map-here}

pub all_pairs_map : {X Y : Type 0} (R : Y → Y → Type 0) (f : X → Y) (xs : List X)
    → ((i j : ℕ) (d : X) → i < j → j < length xs → R (f (get_or xs i d)) (f (get_or xs j d))) → AllPairs R (map f xs)
all_pairs_map R f [] pairs i j d lt within = absurd (omega arith)
all_pairs_map R f (x ∷ xs) pairs i j d lt within =
    let here : j < length (x ∷ xs) = omega (arith, length-map-here f (x ∷ xs)) in
    rw (get_or-map f (x ∷ xs) i x d (omega arith), get_or-map f (x ∷ xs) j x d here) (pairs i j x lt here)

pub order : (m n : ℕ) → (m < n) ⊎ ((n < m) ⊎ (m ≡ n))
order m n = grind arith

-- where rows are apart, rows that are the same stand at one place
pub same_at : {R : Type 0} (same : R → R → Bool) (rows : List R) → AllPairs (λ r row. same row r ≡ false) rows
    → (i j : ℕ) (d : R) → i < length rows → j < length rows → same (get_or rows i d) (get_or rows j d) ≡ true
    → same (get_or rows j d) (get_or rows i d) ≡ true → i ≡ j
same_at same rows apart i j d in_i in_j e f = by (order i j)
  where
    by : (i < j) ⊎ ((j < i) ⊎ (i ≡ j)) → i ≡ j
    by (inl lt) = absurd (true≢false (sym f ∙ apart i j d lt in_j))
    by (inr (inl gt)) = absurd (true≢false (sym e ∙ apart j i d gt in_i))
    by (inr (inr is)) = is

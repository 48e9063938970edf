-- Keys into which a loop mixes numbers.
use Rattle.std.proofs.Common.{◌≡◌, ◌+◌, ◌<◌, ◌∷◌, [], ℕ, List, fold, get_or, length, map, take}
use Rattle.std.proofs.Common.{ap, sym, ◌∙◌}
use Rattle.std.proofs.lemmas.List.{map_more}
use Rattle.std.proofs.lemmas.List.Sums.{fold-append}

-- the numbers of the next row are mixed in
pub mixed_more : {R P K : Type 0} (mix : K → P → K) (own : R → P) (begun : K) (rows : List R) (i : ℕ) (row : R)
    (now next : K) (pair : P) → i < length rows → row ≡ get_or rows i row
    → now ≡ fold mix begun (map own (take i rows)) → pair ≡ own row → next ≡ mix now pair
    → next ≡ fold mix begun (map own (take (i + 1) rows))
mixed_more mix own begun rows i row now next pair lt there so_far made more =
    more
    ∙ ap (λ k. mix k pair) so_far
    ∙ ap (mix (fold mix begun (map own (take i rows)))) (made ∙ ap own there)
    ∙ sym (fold-append mix begun (map own (take i rows)) (own (get_or rows i row) ∷ []))
    ∙ ap (fold mix begun) (sym (map_more own rows i row lt))

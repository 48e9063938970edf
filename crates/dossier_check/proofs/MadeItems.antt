-- The items that are made of rows.
use Rattle.std.proofs.Common.{◌≡◌, ◌+◌, ◌<◌, ◌++◌, ◌∷◌, [], ℕ, List, get_or, length, map, take, ap, sym, ◌∙◌}
use Rattle.std.proofs.lemmas.List.{map_more}

-- one more item is made of the next row
pub made_more : {R T : Type 0} (make : R → T) (rows : List R) (i : ℕ) (row : R) (done now : List T) (item : T)
    → i < length rows → row ≡ get_or rows i row → done ≡ map make (take i rows) → item ≡ make row
    → now ≡ done ++ item ∷ []
    → now ≡ map make (take (i + 1) rows)
made_more make rows i row done now item lt there so_far made more =
    more
    ∙ ap (λ items. items ++ item ∷ []) so_far
    ∙ ap (λ it. map make (take i rows) ++ it ∷ []) (made ∙ ap make there)
    ∙ sym (map_more make rows i row lt)

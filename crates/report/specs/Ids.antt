-- Ids in place of places.
use Rattle.std.specs.Prelude.{ℕ, List, map, slice_index, zip, flat_map, [], ◌∷◌}
use Rattle.std.specs.Fmt.{decimal}
use Rattle.admit_core.specs.DossierRows.{DossierRows}
use Rattle.report.specs.Words.{line}

-- the id of the wish, or of the school, at a place; 0 past the end
abbrev pub wish_id : DossierRows → ℕ → ℕ
wish_id d place = slice_index (map (λ w. w.id) d.wishes) place

abbrev pub school_id : DossierRows → ℕ → ℕ
school_id d place = slice_index (map (λ h. h.id) d.schools) place

-- a line for each item with its number: a word, the id and the number
abbrev pub numbers_text : {X : Type 0} → (X → ℕ) → List ℕ → List X → List ℕ → List ℕ
numbers_text id word items numbers =
    flat_map (λ x. line (word ∷ decimal (id x.0) ∷ decimal x.1 ∷ [])) (zip items numbers)

-- A market that is solved, as a text.
use Rattle.std.specs.Prelude.{ℕ, List, [], ◌∷◌, ◌++◌, Option, Some, None, codes, flat_map, length, map, slice_index}
use Rattle.std.specs.Prelude.{zip}
use Rattle.std.specs.Fmt.{decimal}
use Rattle.std.specs.List.{enumerate_from}
use Rattle.admit_core.specs.DossierRows.{DossierRows}
use Rattle.admit_core.specs.declared.dossier.Programme.{Programme}
use Rattle.report.specs.Words.{line}

-- the id of the programme at a place
abbrev pub programme_id : DossierRows → ℕ → ℕ
programme_id d place = slice_index (map (λ p. p.id) d.programmes) place

-- a programme's bar
abbrev pub cut_line : List ℕ → ℕ × Programme → List ℕ
cut_line bars (place, programme) =
    line (codes "cut" ∷ decimal programme.id ∷ decimal (slice_index bars place) ∷ [])

-- a candidate's place
abbrev pub place_word : DossierRows → Option ℕ → List ℕ
place_word d None = codes "none"
place_word d (Some programme) = decimal (programme_id d programme)

abbrev pub match_line : DossierRows → ℕ × Option ℕ → List ℕ
match_line d (candidate, place) = line (codes "match" ∷ decimal candidate ∷ place_word d place ∷ [])

-- the number of candidates, the bars of all programmes in file order, and the place of each
-- candidate
abbrev pub market_text : DossierRows → List ℕ → List ℕ → List (Option ℕ) → List ℕ
market_text d candidates bars places =
    line (codes "market" ∷ decimal (length candidates) ∷ [])
    ++ flat_map (cut_line bars) (enumerate_from 0 d.programmes)
    ++ flat_map (match_line d) (zip candidates places)

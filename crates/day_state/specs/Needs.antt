-- What a wish needs.
use Rattle.std.specs.Prelude.{ℕ, Bool, not, map, slice_index}
use Rattle.admit_core.specs.State.{State, holds_seat}
use Rattle.admit_core.specs.DossierRows.{DossierRows, candidate_of}

-- the programme of the wish at a place
abbrev pub programme_of : DossierRows → ℕ → ℕ
programme_of d place = slice_index (map (λ w. w.programme) d.wishes) place

-- a wish needs a seat where its candidate is not live in its programme
abbrev pub needs_seat : State → ℕ → Bool
needs_seat s place =
    not (holds_seat s (candidate_of s.dossier place) (programme_of s.dossier place))

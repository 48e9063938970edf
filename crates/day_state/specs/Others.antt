-- States of one dossier that differ in the wishes of some candidates alone.
use Rattle.std.specs.Prelude.{◌≡◌, ℕ, ◌<◌, true, false, List, map, length}
use Rattle.admit_core.specs.Answers.{mark_at, candidate_at}
use Rattle.admit_core.specs.DossierRows.{candidate_of}
use Rattle.admit_core.specs.Lists.{is_among}
use Rattle.admit_core.specs.State.{State}
use Rattle.day_state.specs.Kept.{mark_in}

-- two states of one dossier in which a candidate's own wishes have the same marks
pub record SameOwnMarks (c : ℕ) (s t : State) : Type 0 where
  pub dossier : t.dossier ≡ s.dossier
  pub each : (place : ℕ) → place < length s.dossier.wishes → candidate_at s place ≡ c
      → mark_at s place ≡ mark_at t place

-- two states in which whoever has none of the wishes at these places has the same marks
abbrev pub SameOthers : List ℕ → State → State → Type 0
SameOthers places s t =
    (c : ℕ) → is_among c (map (candidate_of s.dossier) places) ≡ false → SameOwnMarks c s t

-- the wishes at these places have taken over the marks of another state, and no others changed
pub record TakesOver (places : List ℕ) (other old new : State) : Type 0 where
  pub dossier : new.dossier ≡ old.dossier
  pub as_long : length new.marks ≡ length old.marks
  pub here : (k : ℕ) → k < length old.marks → is_among k places ≡ true
      → mark_in new.marks k ≡ mark_in other.marks k
  pub others : (k : ℕ) → is_among k places ≡ false → mark_in new.marks k ≡ mark_in old.marks k

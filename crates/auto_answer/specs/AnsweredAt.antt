-- At which wishes their candidates are asked, and what that frees.
use Rattle.std.specs.Prelude.{ℕ, ◌+◌, ◌<◌, ◌^◌, Bool, ◌&&◌, nat_lt, if◌then◌else◌}
use Rattle.admit_core.specs.declared.state.Freed.{Freed}
use Rattle.admit_core.specs.declared.state.Stamp.{Stamp}
use Rattle.admit_core.specs.Answers.{status_at}
use Rattle.admit_core.specs.AutoAnswer.{auto_one, freed_by}
use Rattle.admit_core.specs.DossierRows.{candidate_of}
use Rattle.admit_core.specs.State.{State, is_live_status}
use Rattle.day_state.specs.Kept.{wish_in}

-- the wish at a place is live, and its candidate ranks their wishes
abbrev pub is_live_ranked : State → ℕ → Bool
is_live_ranked s place =
    is_live_status (status_at s place) && nat_lt 0 (wish_in s.dossier.wishes place).preference

-- the state after the candidate of the wish at a place has been answered for
abbrev pub answered_at : State → ℕ → Stamp → State
answered_at s place stamp = auto_one s (candidate_of s.dossier place) stamp

-- what that frees, with what was freed before
abbrev pub freed_with : Freed → Freed → Freed
freed_with before own = record { seats = before.seats + own.seats; beds = before.beds + own.beds }

abbrev pub freed_at : State → ℕ → Stamp → Freed → Freed
freed_at s place stamp before =
    freed_with before (freed_by s (answered_at s place stamp) (candidate_of s.dossier place))

-- counts of 32 bits
pub record IsCount (f : Freed) : Type 0 where
  pub seats : f.seats < 2 ^ 32
  pub beds : f.beds < 2 ^ 32

-- the same where a candidate is asked at each live wish that they rank, and at no other
abbrev pub asked_at : State → ℕ → Stamp → State
asked_at s place stamp = if is_live_ranked s place then answered_at s place stamp else s

abbrev pub freed_asked : State → ℕ → Stamp → Freed → Freed
freed_asked s place stamp before =
    if is_live_ranked s place then freed_at s place stamp before else before

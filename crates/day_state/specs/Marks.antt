-- Marks that are kept as two lists: statuses, and beside them stamps.
use Rattle.std.specs.Prelude.{◌≡◌, Bool, List, map, length, zip}
use Rattle.admit_core.specs.declared.state.Status.{Status}
use Rattle.admit_core.specs.declared.state.Stamp.{Stamp}
use Rattle.admit_core.specs.declared.state.Mark.{Mark}
use Rattle.admit_core.specs.State.{is_waiting}

-- the marks of these statuses and stamps, by place
abbrev pub marks_of : List Status → List Stamp → List Mark
marks_of statuses stamps =
    map (λ (status, stamp). record { status = status; stamp = stamp }) (zip statuses stamps)

-- the statuses of marks
abbrev pub statuses_of : List Mark → List Status
statuses_of ms = map (λ m. m.status) ms

-- each status has its stamp, and a flag that says whether it is that of a wish that waits
pub record AreMarks (statuses : List Status) (stamps : List Stamp) (waits : List Bool) : Type 0 where
  pub long : length stamps ≡ length statuses
  pub flags : waits ≡ map is_waiting (marks_of statuses stamps)

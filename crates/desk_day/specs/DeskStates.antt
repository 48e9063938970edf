-- What a desk holds.
use Rattle.std.specs.Prelude.{◌≡◌}
use Rattle.admit_core.specs.State.{State}
use Rattle.desk_day.specs.Who.{ChangesOnly}
use Rattle.desk_day.specs.declared.who.Who.{Who}

-- the present state, that of the evening before, and the opening of the last pass
pub record DeskStates : Type 0 where
  pub present : State
  pub evening : State
  pub opening : State

-- the evening is of the present state's dossier, and no wishes but theirs have changed since
pub record IsKept (moved : Who) (evening present : State) : Type 0 where
  pub dossier : evening.dossier ≡ present.dossier
  pub others : ChangesOnly moved evening present

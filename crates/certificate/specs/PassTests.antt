-- A pass that is tested.
use Rattle.std.specs.Prelude.{◌≡◌, length}
use Rattle.admit_core.specs.Falls.{IsAtMost}
use Rattle.admit_core.specs.State.{State}
use Rattle.dossier_check.specs.Ids.{Ids}
use Rattle.linked_demand.specs.Rounds.{Round}
use Rattle.certificate.specs.Checked.{ids_in}

-- a round of the schools of a state, the ids of whose dossier these are: its bars stand at most at
-- its ceilings
pub record IsPassTest (r : Round) (s : State) (ids : Ids) : Type 0 where
  pub same : r.state ≡ s
  pub index : ids ≡ ids_in s.dossier
  pub ceilings : length r.ceilings ≡ length s.dossier.schools
  pub under : IsAtMost r.bars r.ceilings

-- what a round is seen as where its state is this
abbrev pub round_of : State → Round → Round
round_of s r = record { state = s; orders = r.orders; ceilings = r.ceilings; bars = r.bars }

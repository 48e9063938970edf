-- A state along the roster of its dossier, with what is noted once of its candidates and programmes.
use Rattle.std.specs.Prelude.{◌≡◌, ℕ, List, Option}
use Rattle.admit_core.specs.declared.ranking.CallOrder.{CallOrder}
use Rattle.admit_core.specs.State.{State}
use Rattle.linked_demand.specs.Rosters.{Setting}
use Rattle.envy.specs.Known.{AreBest, AreLast}

-- what it is seen as
pub record Seen : Type 0 where
  pub state : State
  pub orders : List CallOrder

-- the best live wish of each candidate, and the last live one of each programme
pub record AreNoted (s : State) (setting : Setting) (held ends : List (Option ℕ)) : Type 0 where
  pub same : setting.dossier ≡ s.dossier
  pub best : AreBest s held
  pub lasts : AreLast s setting.orders ends

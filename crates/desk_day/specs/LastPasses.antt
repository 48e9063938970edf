-- The last pass of a day, and the evening that it left.
use Rattle.std.specs.Prelude.{◌≡◌, ℕ, List, length, Option, IsTrue}
use Rattle.admit_core.specs.declared.ranking.CallOrder.{CallOrder}
use Rattle.admit_core.specs.declared.records.DayRecord.{DayRecord}
use Rattle.admit_core.specs.declared.records.Terms.{Terms}
use Rattle.admit_core.specs.declared.state.Stamp.{Stamp}
use Rattle.admit_core.specs.CallOrder.{AreCallOrders}
use Rattle.admit_core.specs.State.{State}
use Rattle.admit_core.specs.Falls.{IsGreatest}
use Rattle.admit_core.specs.Boarding.{boarding}
use Rattle.admit_core.specs.Days.{closing, freed_after, frees_nothing, morning}
use Rattle.admit_core.specs.EveningLaws.{last_bars}
use Rattle.admit_core.specs.Explanations.{LastPass}
use Rattle.desk_day.specs.DayPasses.{last_opening}

-- the orders are those of the dossier, and each school has one ceiling and one bar
pub record IsOfDossier (last : LastPass) : Type 0 where
  pub called : AreCallOrders last.opening.dossier.groups last.orders
  pub ceilings : length last.ceilings ≡ length last.opening.dossier.schools
  pub bars : length last.bars ≡ length last.opening.dossier.schools

-- the pass that ended a day: its bars are the greatest of its opening, it left the evening, and its
-- automatic answers freed nothing
pub record IsLastPass (last : LastPass) (evening : State) : Type 0 where
  pub of_dossier : IsOfDossier last
  pub stamp : Stamp
  pub greatest : IsGreatest (boarding last.opening last.orders last.ceilings) last.bars
  pub leaves : evening ≡ closing last.opening last.orders last.bars stamp
  pub freed_none : IsTrue (frees_nothing (freed_after last.opening last.orders last.bars stamp))

abbrev pub last_pass : State → List CallOrder → List ℕ → List ℕ → LastPass
last_pass opening orders ceilings bars =
    record { opening = opening; orders = orders; ceilings = ceilings; bars = bars }

-- the last pass of a day that came after the evening old
abbrev pub last_of : Option Terms → List CallOrder → List ℕ → State → DayRecord → LastPass
last_of terms orders ceilings old day =
    last_pass (last_opening orders day.day 1 (morning terms day.day old) day.passes) orders ceilings
    (last_bars day.passes)

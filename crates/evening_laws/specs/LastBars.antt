-- The bars of a day's last pass, in its evening.
use Rattle.std.specs.Prelude.{ℕ, List, Option}
use Rattle.admit_core.specs.declared.ranking.CallOrder.{CallOrder}
use Rattle.admit_core.specs.declared.records.DayRecord.{DayRecord}
use Rattle.admit_core.specs.declared.records.Terms.{Terms}
use Rattle.admit_core.specs.Boarding.{boarding}
use Rattle.admit_core.specs.CallOrder.{AreCallOrders}
use Rattle.admit_core.specs.Days.{IsDay}
use Rattle.admit_core.specs.EveningLaws.{last_bars}
use Rattle.admit_core.specs.Falls.{Fits, IsAtMost, IsGreatest}
use Rattle.admit_core.specs.State.{State}
use Rattle.admit_core.specs.Validity.{IsValid}

-- they still fit: no school has more demanded ranks than free beds
abbrev pub LastBarsStillFit : Type 0
LastBarsStillFit =
    (terms : Option Terms) (orders : List CallOrder) (ceilings : List ℕ) (old : State)
    (day : DayRecord) (evening : State)
    → IsValid old.dossier
    → AreCallOrders old.dossier.groups orders
    → IsDay terms orders ceilings old day evening
    → Fits (boarding evening orders ceilings) (last_bars day.passes)

-- so the greatest bars of the evening are no lower
abbrev pub EveningBarsAreNoLower : Type 0
EveningBarsAreNoLower =
    (terms : Option Terms) (orders : List CallOrder) (ceilings : List ℕ) (old : State)
    (day : DayRecord) (evening : State) (bars : List ℕ)
    → IsValid old.dossier
    → AreCallOrders old.dossier.groups orders
    → IsDay terms orders ceilings old day evening
    → IsGreatest (boarding evening orders ceilings) bars
    → IsAtMost (last_bars day.passes) bars

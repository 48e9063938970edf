-- The last of the days that were played, and the desk after it.
use Rattle.std.specs.Prelude.{◌≡◌, ◌-◌, List, Some, length, slice_get}
use Rattle.admit_core.specs.Days.{ceilings_of}
use Rattle.admit_core.specs.DossierRows.{DossierRows}
use Rattle.admit_core.specs.EveningLaws.{last_bars}
use Rattle.admit_core.specs.Explanations.{LastPass}
use Rattle.admit_core.specs.declared.ranking.CallOrder.{CallOrder}
use Rattle.admit_core.specs.declared.records.DayRecord.{DayRecord}
use Rattle.desk_day.specs.DeskStates.{DeskStates}
use Rattle.desk_day.specs.LastPasses.{IsLastPass, last_pass}

-- a day is the last of these
abbrev pub IsLastOf : List DayRecord → DayRecord → Type 0
IsLastOf days day = slice_get days (length days - 1) ≡ Some day

-- the last pass of a day, on the desk that the day left: the ceilings are those of that day, and
-- the bars those of its last pass
abbrev pub pass_on : DossierRows → List CallOrder → DayRecord → DeskStates → LastPass
pass_on d orders day desk =
    last_pass desk.opening orders (ceilings_of d day.day) (last_bars day.passes)

-- the desk after days of a dossier: the last of them ended with its last pass
pub record IsDeskAfter (d : DossierRows) (orders : List CallOrder) (days : List DayRecord)
    (desk : DeskStates) : Type 0 where
  pub dossier : desk.present.dossier ≡ d
  pub last : (day : DayRecord) → IsLastOf days day
      → IsLastPass (pass_on d orders day desk) desk.present

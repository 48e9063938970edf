-- When a wish got its status decides nothing, where offers have no deadline.
use Rattle.std.specs.Prelude.{◌≡◌, ℕ, List, None}
use Rattle.admit_core.specs.declared.ranking.CallOrder.{CallOrder}
use Rattle.admit_core.specs.declared.records.DayRecord.{DayRecord}
use Rattle.admit_core.specs.Days.{IsDay, answers_of}
use Rattle.admit_core.specs.State.{State}
use Rattle.cut_laws.specs.Alike.{HaveEqualStatuses, undated}

-- the same day, under another number, leads from this state to one with the statuses of the evening
abbrev pub LeadsAlike : List CallOrder → List ℕ → State → DayRecord → ℕ → State → Type 0
LeadsAlike orders ceilings t day number evening =
    (other : State) × HaveEqualStatuses evening other
    × IsDay None orders ceilings t (record day { day = number }) other

-- so where two states have equal statuses, each day of the one is a day of the other, on which the
-- same is answered: the same bars, falls, offers, automatic answers, freed and evening numbers
abbrev pub StampsDecideNothing : Type 0
StampsDecideNothing =
    (orders : List CallOrder) (ceilings : List ℕ) (s t : State) (day : DayRecord) (number : ℕ)
    (evening : State)
    → HaveEqualStatuses s t
    → undated (answers_of s.dossier day.day) ≡ undated (answers_of t.dossier number)
    → IsDay None orders ceilings s day evening
    → LeadsAlike orders ceilings t day number evening

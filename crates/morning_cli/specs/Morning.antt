-- How a run ends that writes a slot of the next morning.
use Rattle.std.specs.Prelude.{◌≡◌, ◌⊎◌, ℕ, List, Option, Ok, is_some}
use Rattle.admit_core.specs.State.{State}
use Rattle.admit_core.specs.declared.slot.Slot.{Slot}
use Rattle.admit_core.specs.declared.tables.Tables.{Tables}
use Rattle.desk_day.specs.DeskStates.{DeskStates}
use Rattle.intake.specs.Input.{Job}
use Rattle.intake.specs.declared.terms.DatedTerms.{DatedTerms}
use Rattle.modes.specs.Endings.{AreDaysOf, IsDoneWith, IsEnding}
use Rattle.modes.specs.Jobs.{dated_of, days_of}
use Rattle.modes.specs.declared.exit.Exit.{Exit}
use Rattle.modes.specs.declared.exit.Exit.TheVariants.{Refused}
use Rattle.next_morning.specs.Morning.{morning_tables}
use Rattle.played.specs.Lent.{Lent}
use Rattle.played.specs.PlayedDays.{Played}
use Rattle.slot_text.specs.Texts.{slot_text}

-- the text of a slot of the morning after a day; where offers have deadlines, the state has dates
abbrev pub morning_text : Slot → Tables → State → ℕ → Option DatedTerms → List ℕ
morning_text slot t evening day dated =
    slot_text (is_some dated) (morning_tables day t evening dated) slot

-- all days of a job came about, and the slot of the morning after the last of them is written
pub record IsMorning (slot : Slot) (job : Job) (before after : Lent) (exit : Exit)
    (text : List ℕ) : Type 0 where
  pub played : Played
  pub desk : DeskStates
  pub days : AreDaysOf job before played after
  pub all : played.end ≡ Ok desk
  pub ends : IsDoneWith
      (morning_text slot job.tables desk.present (days_of job.request) (dated_of job)) exit text

-- a run over a job ends so or, where an answer does not fit, as a run of `replay` is refused
abbrev pub IsSlotEnding : Slot → Job → Lent → Lent → Exit → List ℕ → Type 0
IsSlotEnding slot job before after exit text =
    IsMorning slot job before after exit text
    ⊎ ((exit ≡ Refused) × IsEnding job before after exit text)

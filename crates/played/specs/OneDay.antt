-- How a day ends with one picker.
use Rattle.std.specs.Prelude.{◌≡◌, ℕ, List, Option, Result, IfErr, IfOk}
use Rattle.admit_core.specs.Days.{ceilings_of, morning, unfit_on}
use Rattle.admit_core.specs.declared.ranking.CallOrder.{CallOrder}
use Rattle.admit_core.specs.declared.records.DayRecord.{DayRecord}
use Rattle.admit_core.specs.declared.records.Terms.{Terms}
use Rattle.desk_day.specs.AnswersOn.{IsUnfitOf}
use Rattle.desk_day.specs.DayPasses.{TellsOfPasses}
use Rattle.desk_day.specs.RunDay.{IsDayDone, Moment}
use Rattle.desk_day.specs.declared.refusal.DayRefusal.{DayRefusal}
use Rattle.desk_day.specs.declared.refusal.DayRefusal.TheVariants as refusals

-- a picker told of whole passes of day d under its own ceilings, and then of falls of the next one
abbrev pub TellsOfDay : List CallOrder → Option Terms → ℕ → Moment → List ℕ → Type 0
TellsOfDay orders terms d before told =
    TellsOfPasses orders (ceilings_of before.desk.present.dossier d) d
    (morning terms d before.desk.present) before.choice before.told told

-- what the picker of a day told that did not come about: nothing before an answer that does not
-- fit; where memory ran out, a beginning of what the day would have told it
abbrev pub TellsWhereUndone : List CallOrder → Option Terms → ℕ → Moment → List ℕ → DayRefusal
    → Type 0
TellsWhereUndone orders terms d before told (refusals.Unfit refusal) = told ≡ before.told
TellsWhereUndone orders terms d before told refusals.OutOfMemory =
    TellsOfDay orders terms d before told

-- a day under its own ceilings: it came about, or the first answer that does not fit is refused, or
-- memory ran out
pub record DayEndsWith (orders : List CallOrder) (terms : Option Terms) (d : ℕ)
    (before after : Moment) (result : Result DayRecord DayRefusal) : Type 0 where
  pub done : IfOk result (λ day.
      IsDayDone terms orders (ceilings_of before.desk.present.dossier d) d before day after)
  pub evening : IfOk result (λ day. after.desk.evening ≡ before.desk.present)
  pub dossier : IfOk result (λ day. after.desk.present.dossier ≡ before.desk.present.dossier)
  pub unfit : IfErr result
      (IsUnfitOf before.desk.present.dossier d (unfit_on terms d before.desk.present))
  pub undone : IfErr result (TellsWhereUndone orders terms d before after.told)
  pub choice : after.choice ≡ before.choice

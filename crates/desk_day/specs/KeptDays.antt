-- Days that keep the falls of their passes, and days that keep none.
use Rattle.std.specs.Prelude.{◌≡◌, ℕ, ◌++◌, Bool, List, map, Result, Ok, Err}
use Rattle.admit_core.specs.declared.ranking.CallOrder.{CallOrder}
use Rattle.admit_core.specs.declared.records.DayRecord.{DayRecord}
use Rattle.admit_core.specs.declared.records.PassEnd.{PassEnd}
use Rattle.admit_core.specs.declared.state.Stamp.{Stamp}
use Rattle.admit_core.specs.Boarding.{boarding}
use Rattle.admit_core.specs.State.{State}
use Rattle.bar_fixpoint.specs.Chosen.{AreChosen}
use Rattle.bar_fixpoint.specs.Runs.{schools_of}
use Rattle.round.specs.KeptFalls.{kept_pass}
use Rattle.desk_day.specs.DayPasses.{AreChosenPasses, schools_of_passes, stamp_of}
use Rattle.desk_day.specs.Running.{ArePassesMade, IsPassMade, RunningStates}
use Rattle.desk_day.specs.Telling.{Telling}
use Rattle.desk_day.specs.declared.refusal.DayRefusal.{DayRefusal}

-- a pass with all its falls where they are kept, and with none elsewhere
abbrev pub kept_end : Bool → PassEnd → PassEnd
kept_end keeps end =
    record { pass = kept_pass keeps end.pass; autos = end.autos; freed = end.freed }

-- a day with all falls of its passes where they are kept, and with none elsewhere
abbrev pub kept_day : Bool → DayRecord → DayRecord
kept_day keeps day =
    record {
      day = day.day;
      passes = map (kept_end keeps) day.passes;
      left = day.left;
      free = day.free;
      lapsed = day.lapsed;
    }

-- how a day ends, with what is kept of one that comes about
abbrev pub kept_result : Bool → Result DayRecord DayRefusal → Result DayRecord DayRefusal
kept_result keeps (Ok day) = Ok (kept_day keeps day)
kept_result keeps (Err refusal) = Err refusal

-- a pass that has been made, whose schools a picker chose and told of
pub record IsPassPicked (orders : List CallOrder) (ceilings : List ℕ) (stamp : Stamp) (s : State)
    (telling : Telling) (after : RunningStates) (end : PassEnd) : Type 0 where
  pub made : IsPassMade orders ceilings stamp s end after
  pub told_of : telling.after ≡ telling.before ++ schools_of end.pass.falls
  pub chosen : AreChosen (boarding s orders ceilings) telling.choice telling.before ceilings
      end.pass.falls

-- the passes of a day from its morning on, whose schools a picker chose and told of
pub record ArePassesPicked (orders : List CallOrder) (ceilings : List ℕ) (day : ℕ) (morning : State)
    (telling : Telling) (after : RunningStates) (ends : List PassEnd) : Type 0 where
  pub made : ArePassesMade orders ceilings day morning ends after
  pub told_of : telling.after ≡ telling.before ++ schools_of_passes ends
  pub chosen : AreChosenPasses orders ceilings (stamp_of day 1) morning telling.choice
      telling.before ends

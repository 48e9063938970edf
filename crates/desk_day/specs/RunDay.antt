-- How a day ends: it came about, or the first answer that does not fit is refused, or memory ran
-- out.
use Rattle.std.specs.Prelude.{◌≡◌, ◌≤◌, ℕ, ◌+◌, List, length, map, ◌++◌, All, Option, Result, IfOk, IfErr, OnErr, ⊤}
use Rattle.std.specs.List.{range_with_len}
use Rattle.admit_core.specs.declared.ranking.CallOrder.{CallOrder}
use Rattle.admit_core.specs.declared.records.DayRecord.{DayRecord}
use Rattle.admit_core.specs.declared.records.Lapse.{Lapse}
use Rattle.admit_core.specs.declared.records.PassEnd.{PassEnd}
use Rattle.admit_core.specs.declared.records.Terms.{Terms}
use Rattle.admit_core.specs.declared.state.Mark.{Mark}
use Rattle.admit_core.specs.State.{State, free_beds, seats_left}
use Rattle.admit_core.specs.Days.{IsDay, morning, unfit_on}
use Rattle.desk_day.specs.AnswersOn.{IsUnfitOf}
use Rattle.desk_day.specs.DayLaws.{KeepsLaws}
use Rattle.desk_day.specs.DayPasses.{AreChosenPasses, TellsMore, TellsOfPasses}
use Rattle.desk_day.specs.DayPasses.{last_opening, schools_of_passes, stamp_of}
use Rattle.desk_day.specs.DayPlaces.{IsDayIn}
use Rattle.desk_day.specs.DeskStates.{DeskStates}
use Rattle.desk_day.specs.declared.refusal.DayRefusal.{DayRefusal}
use Rattle.desk_day.specs.declared.refusal.DayRefusal.TheVariants as refusals

-- a desk, with what the picker of the day has told and how it chooses
pub record Moment : Type 0 where
  pub desk : DeskStates
  pub told : List ℕ
  pub choice : List ℕ → List ℕ → ℕ

-- the day of a mark is at most this one
abbrev pub IsStampedBy : ℕ → Mark → Type 0
IsStampedBy last m = m.stamp.day ≤ last

-- no mark of the evening is stamped later than on the day, or than all marks of the evening before
abbrev pub KeepsStamps : ℕ → State → State → Type 0
KeepsStamps day old evening =
    (last : ℕ) → day ≤ last → All (IsStampedBy last) old.marks
    → All (IsStampedBy last) evening.marks

-- the record of a day that made these passes after these lapses, in its evening
abbrev pub recorded : ℕ → List PassEnd → List Lapse → State → DayRecord
recorded day passes lapsed evening = record {
  day = day;
  passes = passes;
  left = map (seats_left evening) (range_with_len 0 (length evening.dossier.programmes));
  free = map (free_beds evening) (range_with_len 0 (length evening.dossier.schools));
  lapsed = lapsed;
}

-- the rule of a day on a desk: lapses, answers and passes led from the evening before to this one;
-- the desk keeps what the last pass opened with; each school that fell was the picker's choice, who
-- was told of it
pub record IsDayByRule (terms : Option Terms) (orders : List CallOrder) (ceilings : List ℕ)
    (day : ℕ) (before : Moment) (done : DayRecord) (after : Moment) : Type 0 where
  pub number : done.day ≡ day
  pub is_day : IsDay terms orders ceilings before.desk.present done after.desk.present
  pub opening : after.desk.opening
      ≡ last_opening orders day 1 (morning terms day before.desk.present) done.passes
  pub told : after.told ≡ before.told ++ schools_of_passes done.passes
  pub chosen : AreChosenPasses orders ceilings (stamp_of day 1)
      (morning terms day before.desk.present) before.choice before.told done.passes

-- what follows from the rule over a valid dossier: the day keeps the laws of days, has at most one
-- pass more than wishes, is recorded by places of the dossier, and stamps no mark later than itself
pub record FollowsFromDay (terms : Option Terms) (orders : List CallOrder) (ceilings : List ℕ)
    (day : ℕ) (old : State) (done : DayRecord) (evening : State) : Type 0 where
  pub laws : KeepsLaws terms orders ceilings old done evening
  pub few : length done.passes ≤ length old.dossier.wishes + 1
  pub places : IsDayIn old.dossier done
  pub stamps : KeepsStamps day old evening

-- a day that came about
pub record IsDayDone (terms : Option Terms) (orders : List CallOrder) (ceilings : List ℕ) (day : ℕ)
    (before : Moment) (done : DayRecord) (after : Moment) : Type 0 where
  pub rule : IsDayByRule terms orders ceilings day before done after
  pub follows : FollowsFromDay terms orders ceilings day before.desk.present done
      after.desk.present

-- before an unfit answer a picker told of nothing; where memory ran out, what it told before is a
-- prefix of what it tells now
abbrev pub TellsNoneUnfit : List ℕ → List ℕ → DayRefusal → Type 0
TellsNoneUnfit before after (refusals.Unfit refusal) = after ≡ before
TellsNoneUnfit before after refusals.OutOfMemory = TellsMore before after

-- an unfit answer is found before the first pass; where memory ran out, any pass may have opened
abbrev pub KeepsOpening : State → State → DayRefusal → Type 0
KeepsOpening before after (refusals.Unfit refusal) = after ≡ before
KeepsOpening before after refusals.OutOfMemory = ⊤

-- how a day ends on a desk: after a refusal the state is that of the evening before
pub record EndsDay (terms : Option Terms) (orders : List CallOrder) (ceilings : List ℕ) (day : ℕ)
    (before after : Moment) (result : Result DayRecord DayRefusal) : Type 0 where
  pub done : IfOk result (λ done. IsDayDone terms orders ceilings day before done after)
  pub unfit : IfErr result
      (IsUnfitOf before.desk.present.dossier day (unfit_on terms day before.desk.present))
  pub restored : OnErr result (after.desk.present ≡ before.desk.present)
  pub evening : after.desk.evening ≡ before.desk.present
  pub dossier : after.desk.present.dossier ≡ before.desk.present.dossier
  pub unopened : IfErr result (KeepsOpening before.desk.opening after.desk.opening)
  pub untold : IfErr result (TellsNoneUnfit before.told after.told)
  pub asked : OnErr result (TellsOfPasses orders ceilings day
      (morning terms day before.desk.present) before.choice before.told after.told)
  pub choice : after.choice ≡ before.choice

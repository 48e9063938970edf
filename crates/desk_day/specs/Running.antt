-- What the desk of a day that runs holds.
use Rattle.std.specs.Prelude.{◌≡◌, ℕ, ◌+◌, ◌≤◌, ◌<◌, not, List, length, Option, None, IsTrue}
use Rattle.std.specs.Prelude.{Result, Ok, Err, if◌then◌else◌}
use Rattle.admit_core.specs.declared.ranking.CallOrder.{CallOrder}
use Rattle.admit_core.specs.declared.records.DayRecord.{DayRecord}
use Rattle.admit_core.specs.declared.records.Lapse.{Lapse}
use Rattle.admit_core.specs.declared.records.PassEnd.{PassEnd}
use Rattle.admit_core.specs.declared.records.Terms.{Terms}
use Rattle.admit_core.specs.declared.state.Freed.{Freed}
use Rattle.admit_core.specs.declared.state.Stamp.{Stamp}
use Rattle.admit_core.specs.Days.{IsPassEnd, Passes, closing, frees_nothing, lapsed_on, morning, unfit_on}
use Rattle.admit_core.specs.State.{State}
use Rattle.day_state.specs.Others.{SameOthers}
use Rattle.desk_day.specs.AnswersOn.{IsUnfitOf}
use Rattle.desk_day.specs.DayPasses.{IsAnswered, IsAnsweredBut, TellsOfPasses, last_opening, open_wishes}
use Rattle.desk_day.specs.DayPlaces.{AreWishesOf}
use Rattle.desk_day.specs.RunDay.{IsDayDone, KeepsOpening, Moment, TellsNoneUnfit}
use Rattle.desk_day.specs.Who.{ChangesOnly}
use Rattle.desk_day.specs.declared.refusal.DayRefusal.{DayRefusal}
use Rattle.desk_day.specs.declared.who.Who.{Who}

-- the present state, and the opening of the last pass
pub record RunningStates : Type 0 where
  pub present : State
  pub opening : State

-- both are of one dossier, and no wishes but theirs have changed since the opening
pub record IsRunning (moved : Who) (s : RunningStates) : Type 0 where
  pub dossier : s.opening.dossier ≡ s.present.dossier
  pub others : ChangesOnly moved s.opening s.present

-- the opening after a pass: its own where it freed nothing, since it is the last one then, and
-- elsewhere its closing, with which the next one opens
abbrev pub opening_after : Freed → State → State → State
opening_after freed opening closing = if frees_nothing freed then opening else closing

-- a pass that opened with this state has been made, with its automatic answers
pub record IsPassMade (orders : List CallOrder) (ceilings : List ℕ) (stamp : Stamp) (s : State)
    (end : PassEnd) (after : RunningStates) : Type 0 where
  pub ended : IsPassEnd s orders ceilings stamp end
  pub present : after.present ≡ closing s orders end.pass.bars stamp
  pub opening : after.opening ≡ opening_after end.freed s after.present
  pub fewer : IsTrue (not (frees_nothing end.freed)) → open_wishes after.present < open_wishes s
  pub marks : length after.present.marks ≡ length after.present.dossier.wishes

-- the passes of a day from its morning on have been made, of which there are at most as many as
-- wishes, and one more
pub record ArePassesMade (orders : List CallOrder) (ceilings : List ℕ) (day : ℕ) (morning : State)
    (ends : List PassEnd) (after : RunningStates) : Type 0 where
  pub passes : Passes orders ceilings day 1 morning ends after.present
  pub opening : after.opening ≡ last_opening orders day 1 morning ends
  pub few : length ends ≤ length morning.dossier.wishes + 1

-- a day that runs, with the evening before it, and what the picker of the day has told and how it
-- chooses
abbrev pub moment_on : RunningStates → State → List ℕ → (List ℕ → List ℕ → ℕ) → Moment
moment_on running evening told choice = record {
  desk = record { present = running.present; evening = evening; opening = running.opening };
  told = told;
  choice = choice;
}

-- the lapse and the answers of a day have been made, and these offers lapsed
pub record IsBegun (terms : Option Terms) (day : ℕ) (old new : State)
    (lapsed : List Lapse) : Type 0 where
  pub lapses : lapsed ≡ lapsed_on terms day old
  pub fits : unfit_on terms day old ≡ None
  pub state : new ≡ morning terms day old

-- only those who have one of these wishes may have changed, and have to be answered for
pub record TouchesOnly (touched : List ℕ) (old new : State) : Type 0 where
  pub within : AreWishesOf new.dossier touched
  pub others : SameOthers touched old new
  pub answered : IsAnswered old → IsAnsweredBut touched new

-- why a day has not come about, and what its picker told and its last pass opened with by then
pub record IsUndone (terms : Option Terms) (orders : List CallOrder) (ceilings : List ℕ) (day : ℕ)
    (before after : Moment) (refusal : DayRefusal) : Type 0 where
  pub unfit : IsUnfitOf before.desk.present.dossier day (unfit_on terms day before.desk.present)
      refusal
  pub unopened : KeepsOpening before.desk.opening after.desk.opening refusal
  pub untold : TellsNoneUnfit before.told after.told refusal
  -- the whole passes that it told of, and the beginning of one
  pub asked : TellsOfPasses orders ceilings day (morning terms day before.desk.present)
      before.choice before.told after.told

-- what came of a day that was played: the day that came about, or why it has not
abbrev pub IsPlayed : Option Terms → List CallOrder → List ℕ → ℕ → Moment → Moment
    → Result DayRecord DayRefusal → Type 0
IsPlayed terms orders ceilings day before after (Ok done) =
    IsDayDone terms orders ceilings day before done after
IsPlayed terms orders ceilings day before after (Err refusal) =
    IsUndone terms orders ceilings day before after refusal

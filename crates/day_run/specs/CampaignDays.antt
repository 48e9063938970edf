-- How far a campaign has come, and what its next day makes of it.
use Rattle.std.specs.Prelude.{◌≡◌, ℕ, ◌+◌, Bool, true, false, List, length, map, Option, Result, IfOk, IfErr, OnErr}
use Rattle.std.specs.Prelude.{IsTrue}
use Rattle.admit_core.specs.declared.ranking.CallOrder.{CallOrder}
use Rattle.admit_core.specs.declared.records.DayRecord.{DayRecord}
use Rattle.admit_core.specs.declared.records.Terms.{Terms}
use Rattle.admit_core.specs.CallOrder.{AreCallOrders}
use Rattle.admit_core.specs.DossierRows.{DossierRows}
use Rattle.admit_core.specs.State.{State}
use Rattle.admit_core.specs.Days.{ceilings_of, first_evening, morning, unfit_on}
use Rattle.admit_core.specs.EveningLaws.{last_bars}
use Rattle.admit_core.specs.Explanations.{LastPass}
use Rattle.admit_core.specs.Lapses.{AreTermsFor}
use Rattle.linked_demand.specs.Rosters.{Setting}
use Rattle.desk_day.specs.AnswersOn.{IsUnfitOf}
use Rattle.desk_day.specs.DayPasses.{TellsOfPasses}
use Rattle.desk_day.specs.DeskStates.{DeskStates}
use Rattle.desk_day.specs.LastPasses.{IsLastPass, last_pass}
use Rattle.desk_day.specs.RunDay.{Moment, IsDayDone, KeepsOpening, TellsNoneUnfit}
use Rattle.desk_day.specs.declared.refusal.DayRefusal.{DayRefusal}

-- the orders and the terms of a campaign, the days that were run, and whether the last one came
-- about; the present state, that of the evening before, the opening of the last pass, its bars, and
-- the ceilings of its day
pub record Progress : Type 0 where
  pub orders : List CallOrder
  pub terms : Option Terms
  pub day : ℕ
  pub has_day : Bool
  pub present : State
  pub evening : State
  pub opening : State
  pub bars : List ℕ
  pub ceilings : List ℕ

-- the same by its parts
abbrev pub progress : List CallOrder → Option Terms → ℕ → Bool → DeskStates → List ℕ → List ℕ
    → Progress
progress orders terms day has_day desk bars ceilings = record {
  orders = orders;
  terms = terms;
  day = day;
  has_day = has_day;
  present = desk.present;
  evening = desk.evening;
  opening = desk.opening;
  bars = bars;
  ceilings = ceilings;
}

-- the last pass of a campaign
abbrev pub pass_of : Progress → LastPass
pass_of p = last_pass p.opening p.orders p.ceilings p.bars

-- what every campaign keeps: after a day that came about, its last pass left the present state
pub record IsProgress (p : Progress) : Type 0 where
  pub orders : AreCallOrders p.present.dossier.groups p.orders
  pub before : AreTermsFor p.present.dossier p.terms
  pub bars : length p.bars ≡ length p.present.dossier.schools
  pub last : IsTrue p.has_day → IsLastPass (pass_of p) p.present

-- the same, with the roster that its days share
pub record IsAlong (roster : Setting) (p : Progress) : Type 0 where
  pub progress : IsProgress p
  pub same : roster.dossier ≡ p.present.dossier

-- the schools' own ceilings
abbrev pub own_ceilings : DossierRows → List ℕ
own_ceilings d = map (λ school. school.ceiling) d.schools

-- no day was run: the bars and the ceilings are the schools' own ceilings
pub record IsBegun (d : DossierRows) (called : List CallOrder) (given : Option Terms)
    (p : Progress) : Type 0 where
  pub orders : p.orders ≡ called
  pub terms : p.terms ≡ given
  pub day : p.day ≡ 0
  pub has_day : p.has_day ≡ false
  pub present : p.present ≡ first_evening d
  pub evening : p.evening ≡ first_evening d
  pub opening : p.opening ≡ first_evening d
  pub bars : p.bars ≡ own_ceilings d
  pub ceilings : p.ceilings ≡ own_ceilings d

-- a campaign on a day, with what the picker of the day has told and how it chooses
pub record Stage : Type 0 where
  pub course : Progress
  pub told : List ℕ
  pub choice : List ℕ → List ℕ → ℕ

-- the same as a day on a desk sees it
abbrev pub moment_of : Stage → Moment
moment_of stage =
    let p = stage.course in
    record {
      desk = record { present = p.present; evening = p.evening; opening = p.opening };
      told = stage.told;
      choice = stage.choice;
    }

-- the next day came about, under its own ceilings
pub record RunsDay (before : Stage) (done : DayRecord) (after : Stage) : Type 0 where
  pub is_done : IsDayDone before.course.terms before.course.orders
      (ceilings_of before.course.present.dossier (before.course.day + 1))
      (before.course.day + 1) (moment_of before) done (moment_of after)
  pub bars : after.course.bars ≡ last_bars done.passes
  pub ceilings : after.course.ceilings
      ≡ ceilings_of before.course.present.dossier (before.course.day + 1)
  pub counted : after.course.day ≡ before.course.day + 1
  pub has_day : after.course.has_day ≡ true

-- the next day did not come about: it may be tried again
pub record StaysAt (old new : Progress) : Type 0 where
  pub present : new.present ≡ old.present
  pub bars : new.bars ≡ old.bars
  pub ceilings : new.ceilings ≡ old.ceilings
  pub counted : new.day ≡ old.day
  pub has_day : new.has_day ≡ false

-- what no day changes
pub record SameCampaign (old new : Progress) : Type 0 where
  pub orders : new.orders ≡ old.orders
  pub terms : new.terms ≡ old.terms
  pub dossier : new.present.dossier ≡ old.present.dossier

-- the picker told of a beginning of what the next day would have told it: of whole passes, and of
-- falls of the one that follows them
abbrev pub TellsOfNextDay : Stage → List ℕ → Type 0
TellsOfNextDay before told =
    let p = before.course in
    TellsOfPasses p.orders (ceilings_of p.present.dossier (p.day + 1)) (p.day + 1)
    (morning p.terms (p.day + 1) p.present) before.choice before.told told

-- how the next day of a campaign ends
pub record EndsNextDay (before after : Stage) (result : Result DayRecord DayRefusal) : Type 0 where
  pub runs : IfOk result (λ done. RunsDay before done after)
  pub unfit : IfErr result
      (IsUnfitOf before.course.present.dossier (before.course.day + 1)
      (unfit_on before.course.terms (before.course.day + 1) before.course.present))
  pub stays : OnErr result (StaysAt before.course after.course)
  pub same : SameCampaign before.course after.course
  pub unopened : IfErr result (KeepsOpening before.course.opening after.course.opening)
  pub untold : IfErr result (TellsNoneUnfit before.told after.told)
  pub asked : OnErr result (TellsOfNextDay before after.told)
  pub choice : after.choice ≡ before.choice

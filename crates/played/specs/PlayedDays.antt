-- The days of a campaign, each with the picker of the day, and what becomes of the days that are
-- asked for.
use Rattle.std.specs.Prelude.{◌≡◌, ℕ, ◌+◌, ◌<◌, false, List, [], ◌∷◌, ◌++◌, Option, IsSomeAnd, Result, Ok, Err, IfErr}
use Rattle.std.specs.Prelude.{◌⊎◌, IfOk, None, length, ⊤}
use Rattle.admit_core.specs.CallOrder.{AreCallOrders}
use Rattle.admit_core.specs.Days.{ceilings_of, first_evening, unfit_on}
use Rattle.admit_core.specs.DossierRows.{DossierRows}
use Rattle.admit_core.specs.State.{State}
use Rattle.admit_core.specs.declared.ranking.CallOrder.{CallOrder}
use Rattle.admit_core.specs.declared.records.DayRecord.{DayRecord}
use Rattle.admit_core.specs.declared.records.Terms.{Terms}
use Rattle.admit_core.specs.declared.refusal.Refusal.{Refusal}
use Rattle.desk_day.specs.AnswersOn.{IsUnfitOf, unfit_refusal}
use Rattle.desk_day.specs.DeskStates.{DeskStates}
use Rattle.desk_day.specs.RunDay.{IsDayDone, Moment}
use Rattle.desk_day.specs.declared.refusal.DayRefusal.{DayRefusal}
use Rattle.desk_day.specs.declared.refusal.DayRefusal.TheVariants as refusals
use Rattle.played.specs.Lent.{AreBack, Lent, Told, Untold, is_named, picked_by}
use Rattle.played.specs.OneDay.{TellsOfDay}
use Rattle.request.specs.Pickers.{picker_on}
use Rattle.request.specs.declared.pickers.PickerChoice.{PickerChoice}
use Rattle.request.specs.declared.pickers.PickerName.{PickerName}

-- how days are run: by which call orders, under which terms, and with which picker each
pub record Plan : Type 0 where
  pub orders : List CallOrder
  pub terms : Option Terms
  pub who : PickerChoice

-- a moment of a run: its desk, and how its pickers stand
pub record RunMoment : Type 0 where
  pub desk : DeskStates
  pub pickers : Lent

-- a desk, and how the picker of day d stands beside it
abbrev pub moment_of : Plan → ℕ → DeskStates → Lent → Moment
moment_of plan d desk lent = record {
  desk = desk;
  told = lent.told (picker_on plan.who d);
  choice = lent.choice (picker_on plan.who d);
}

-- the pickers after a day
abbrev pub lent_after : PickerChoice → DayRecord → Lent → Lent
lent_after who day lent =
    record lent { told = λ name. lent.told name ++ picked_by who name (day ∷ []) }

-- day d came about under its own ceilings, and the picker of the day made each choice of it
pub record IsNext (plan : Plan) (d : ℕ) (old : DeskStates) (before : Lent) (day : DayRecord)
    (new : DeskStates) : Type 0 where
  pub done : IsDayDone plan.terms plan.orders (ceilings_of old.present.dossier d) d
      (moment_of plan d old before) day (moment_of plan d new (lent_after plan.who day before))
  pub evening : new.evening ≡ old.present
  pub dossier : new.present.dossier ≡ old.present.dossier

-- memory ran out on day d, each answer of which fits: its picker told of a beginning of what the
-- day would have told it, and the others told of nothing
pub record BreaksDay (plan : Plan) (d : ℕ) (old : DeskStates) (before after : Lent) : Type 0 where
  pub own : TellsOfDay plan.orders plan.terms d (moment_of plan d old before)
      (after.told (picker_on plan.who d))
  pub others : (name : PickerName) → is_named name (picker_on plan.who d) ≡ false
      → after.told name ≡ before.told name
  pub fits : unfit_on plan.terms d old.present ≡ None

-- what the pickers told on day d, which did not come about: nothing where an answer does not fit
abbrev pub TellWhereUndone : Plan → ℕ → DeskStates → Lent → Lent → DayRefusal → Type 0
TellWhereUndone plan d old before after (refusals.Unfit refusal) = Untold before after
TellWhereUndone plan d old before after refusals.OutOfMemory = BreaksDay plan d old before after

-- how day d ends, from a moment of a run to the next
pub record EndsNext (plan : Plan) (d : ℕ) (before : RunMoment) (result : Result DayRecord DayRefusal)
    (after : RunMoment) : Type 0 where
  pub done : IfOk result (λ day. IsNext plan d before.desk before.pickers day after.desk)
  pub told : IfOk result (λ day. Told plan.who (day ∷ []) before.pickers after.pickers)
  pub unfit : IfErr result
      (IsUnfitOf before.desk.present.dossier d (unfit_on plan.terms d before.desk.present))
  pub undone : IfErr result (TellWhereUndone plan d before.desk before.pickers after.pickers)
  pub back : AreBack before.pickers after.pickers

-- days from day d on lead from one desk to another
abbrev pub Lead : Plan → ℕ → DeskStates → Lent → List DayRecord → DeskStates → Type 0
Lead plan d old before [] new = old ≡ new
Lead plan d old before (day ∷ days) new =
    (desk : DeskStates) × IsNext plan d old before day desk
    × Lead plan (d + 1) desk (lent_after plan.who day before) days new

-- days from day d on came about, and memory ran out on the next one
abbrev pub BreaksAfter : Plan → ℕ → DeskStates → Lent → Lent → List DayRecord → Type 0
BreaksAfter plan d old before after [] = BreaksDay plan d old before after
BreaksAfter plan d old before after (day ∷ days) =
    (desk : DeskStates) × IsNext plan d old before day desk
    × BreaksAfter plan (d + 1) desk (lent_after plan.who day before) after days

-- memory ran out on one of so many days from day 1 on
pub record BreaksOneDay (plan : Plan) (number : ℕ) (old : DeskStates)
    (before after : Lent) : Type 0 where
  pub days : List DayRecord
  pub fewer : length days < number
  pub last : BreaksAfter plan 1 old before after days

-- the same, or before the first of them
abbrev pub BreaksDays : Plan → ℕ → DeskStates → Lent → Lent → Type 0
BreaksDays plan number old before after =
    Untold before after ⊎ BreaksOneDay plan number old before after

-- after fewer days than so many, an answer of the next day does not fit
pub record IsCutShort (terms : Option Terms) (number : ℕ) (days : List DayRecord) (evening : State)
    (refusal : Refusal) : Type 0 where
  pub fewer : length days < number
  pub unfit : IsSomeAnd (unfit_on terms (length days + 1) evening)
      (λ x. refusal ≡ unfit_refusal evening.dossier (length days + 1) x)

-- what holds unless memory ran out
abbrev pub OnFit : Result (Unit {0}) DayRefusal → Type 0 → Type 0
OnFit (Ok done) Fact = Fact
OnFit (Err (refusals.Unfit refusal)) Fact = Fact
OnFit (Err refusals.OutOfMemory) Fact = ⊤

-- what holds where it did
abbrev pub OnLack : Result (Unit {0}) DayRefusal → Type 0 → Type 0
OnLack (Ok done) Fact = ⊤
OnLack (Err (refusals.Unfit refusal)) Fact = ⊤
OnLack (Err refusals.OutOfMemory) Fact = Fact

-- where days end: after so many of them, or before one with an answer that does not fit
abbrev pub StopsAfter : Plan → ℕ → List DayRecord → DeskStates → DeskStates
    → Result (Unit {0}) DayRefusal → Type 0
StopsAfter plan number days last new (Ok done) = (length days ≡ number) × (new ≡ last)
StopsAfter plan number days last new (Err (refusals.Unfit refusal)) =
    IsCutShort plan.terms number days last.present refusal
StopsAfter plan number days last new (Err refusals.OutOfMemory) = ⊤

-- days from day 1 on, of which so many are asked for, from a moment of a run to another
pub record PlaysDays (plan : Plan) (number : ℕ) (before : RunMoment) (days : List DayRecord)
    (result : Result (Unit {0}) DayRefusal) (after : RunMoment) : Type 0 where
  pub last : DeskStates
  pub lead : OnFit result (Lead plan 1 before.desk before.pickers days last)
  pub stops : StopsAfter plan number days last after.desk result
  pub told : OnFit result (Told plan.who days before.pickers after.pickers)
  pub breaks : OnLack result (BreaksDays plan number before.desk before.pickers after.pickers)
  pub back : AreBack before.pickers after.pickers
  pub idle : number ≡ 0 → Untold before.pickers after.pickers

-- the desk on which a campaign begins
abbrev pub first_desk : DossierRows → DeskStates
first_desk d =
    record { present = first_evening d; evening = first_evening d; opening = first_evening d }

-- the call orders, the days that came about, and the desk after them or the refusal of the first
-- answer that does not fit
pub record Played : Type 0 where
  pub orders : List CallOrder
  pub days : List DayRecord
  pub end : Result DeskStates Refusal

-- so many days came about, or those before one with an answer that does not fit
abbrev pub DaysEndAfter : Option Terms → ℕ → List DayRecord → DeskStates
    → Result DeskStates Refusal → Type 0
DaysEndAfter terms number days last (Ok desk) = (length days ≡ number) × (desk ≡ last)
DaysEndAfter terms number days last (Err refusal) =
    IsCutShort terms number days last.present refusal

abbrev pub plan_of : Option Terms → PickerChoice → Played → Plan
plan_of terms who played = record { orders = played.orders; terms = terms; who = who }

-- what became of the days of a dossier, of which so many were asked for
pub record IsPlayed (d : DossierRows) (terms : Option Terms) (number : ℕ) (who : PickerChoice)
    (before : Lent) (played : Played) (after : Lent) : Type 0 where
  pub called : AreCallOrders d.groups played.orders
  pub last : DeskStates
  pub days : Lead (plan_of terms who played) 1 (first_desk d) before played.days last
  pub ends : DaysEndAfter terms number played.days last played.end
  pub told : Told who played.days before after

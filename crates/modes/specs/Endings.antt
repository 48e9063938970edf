-- How a run over a job ends, by its mode.
use Rattle.std.specs.Prelude.{◌≡◌, ◌⊎◌, ℕ, List, [], ◌++◌, All, IfOk, IfSome, OnErr, Result, Ok, Err, length}
use Rattle.std.specs.Option.{option_copied}
use Rattle.admit_core.specs.CallOrder.{AreCallOrders}
use Rattle.admit_core.specs.Days.{first_evening}
use Rattle.admit_core.specs.declared.ranking.CallOrder.{CallOrder}
use Rattle.admit_core.specs.declared.refusal.Refusal.{Refusal}
use Rattle.certificate.specs.ChainText.{chain_text}
use Rattle.certificate.specs.Checked.{ids_in}
use Rattle.desk_day.specs.DeskStates.{DeskStates}
use Rattle.intake.specs.Dated.{AreDatedFor, terms_in}
use Rattle.intake.specs.Input.{Job, NamesIn}
use Rattle.played.specs.KeptDays.{IsPlayedKept}
use Rattle.played.specs.LastDays.{IsDeskAfter}
use Rattle.played.specs.Lent.{Lent, Untold}
use Rattle.played.specs.PlayedDays.{BreaksDays, IsPlayed, Played, first_desk}
use Rattle.report.specs.RefusalText.{refusal_line}
use Rattle.report.specs.SampleText.{sample_text}
use Rattle.request.specs.Request.{IsRequest}
use Rattle.request.specs.declared.modes.Mode.{Mode}
use Rattle.request.specs.declared.modes.Mode.TheVariants.{Order, Replay, Chain, Check, Explain, Envy, Beds, Market}
use Rattle.request.specs.declared.modes.Mode.TheVariants.{Sample}
use Rattle.round.specs.declared.falls.Falls.{Falls}
use Rattle.modes.specs.LentPicker.{ArePicks, Asked, BreaksEnding, BreaksPicks, IsLent, TellsAfter, TellsPicks}
use Rattle.modes.specs.AfterDays.{seen_after}
use Rattle.modes.specs.Beds.{TellsFigures}
use Rattle.modes.specs.Blocked.{blocked_text}
use Rattle.modes.specs.Checking.{IsChecked}
use Rattle.modes.specs.Explained.{IsExplained}
use Rattle.modes.specs.Market.{TellsMarket}
use Rattle.modes.specs.Jobs.{JobView, days_of, dossier, picker_after, view_of, seen_of, terms_of, wanted_with}
use Rattle.modes.specs.Order.{orders_text}
use Rattle.modes.specs.Replay.{CanBeDated, CanBeWritten, days_text, replay_text}
use Rattle.modes.specs.declared.exit.Exit.{Exit}
use Rattle.modes.specs.declared.exit.Exit.TheVariants.{Done, Refused}
use Rattle.modes.specs.declared.all_played.AllPlayed.{AllPlayed}
use Rattle.modes.specs.declared.reply.Reply.{Reply}
use Rattle.modes.specs.declared.task.Asking.{Asking}
use Rattle.modes.specs.declared.task.Asking.TheVariants as asking
use Rattle.modes.specs.declared.task.Task.{Task}

-- what the modes see of what a run is to do
abbrev pub view_in : Task → JobView
view_in task = view_of task.request.now task.input.now (option_copied task.dated)

-- the mode that asks something of a picker
abbrev pub asked_by : Asking → Mode
asked_by (asking.Beds school) = Beds school
asked_by asking.Market = Market

-- what was played where all days have led to a desk
abbrev pub played_by : AllPlayed → Played
played_by played =
    record { orders = played.last.orders; days = played.days.items; end = Ok played.last.desk }

-- a run is done with its whole text
abbrev pub IsDoneWith : List ℕ → Exit → List ℕ → Type 0
IsDoneWith whole exit text = (exit ≡ Done) × (text ≡ whole)

-- a run is done with a text of which this holds
abbrev pub IsDoneSaying : (List ℕ → Type 0) → Exit → List ℕ → Type 0
IsDoneSaying IsText exit text = (exit ≡ Done) × IsText text

-- how each mode ends once all its days have led to a desk
abbrev pub IsEndOf : Mode → JobView → Played → DeskStates → Exit → List ℕ → Type 0
IsEndOf Order view played desk = IsDoneWith (orders_text view.dossier.groups played.orders)
IsEndOf Replay view played desk =
    IsDoneWith (replay_text view.dossier view.dated played.orders played.days desk.present)
IsEndOf Chain view played desk = IsDoneWith (chain_text view.dossier played.days)
IsEndOf Check view played desk = IsChecked view.dossier view.chain view.dated played.orders
IsEndOf (Explain wish) view played desk =
    IsDoneSaying (IsExplained (seen_after view played desk) wish)
IsEndOf Envy view played desk = IsDoneWith (blocked_text desk.present played.orders)
IsEndOf (Beds school) view played desk =
    IsDoneSaying (TellsFigures (seen_after view played desk) school)
IsEndOf Market view played desk = IsDoneSaying (TellsMarket view.dossier played.orders)
IsEndOf (Sample number) view played desk =
    IsDoneWith (sample_text number (length view.dossier.wishes) played.days desk.present)

-- what a mode writes before the refusal of an answer that does not fit
abbrev pub lines_before : Mode → JobView → Played → List ℕ
lines_before Replay view played = days_text view.dossier view.dated played.orders played.days
lines_before _ view played = []

-- a run ends with an answer that does not fit
abbrev pub IsRefusedWith : Refusal → List ℕ → Exit → List ℕ → Type 0
IsRefusedWith refusal before exit text = (exit ≡ Refused) × (text ≡ before ++ refusal_line refusal)

-- how a run ends after its days
abbrev pub EndsWith : Result DeskStates Refusal → JobView → Played → Exit → List ℕ → Type 0
EndsWith (Ok desk) view played = IsEndOf view.request.mode view played desk
EndsWith (Err refusal) view played =
    IsRefusedWith refusal (lines_before view.request.mode view played)

-- the days of a job, as many as are asked for, with these pickers
abbrev pub AreDaysOf : Job → Lent → Played → Lent → Type 0
AreDaysOf job = IsPlayed (dossier job) (terms_of job) (days_of job.request) job.request.picker

-- what an ending rests on: the request is one that was read, its terms and what it names are those
-- of the dossier, and the days are those that it asks for, with pickers that stood somehow before
-- and after them. Their falls may be left out
pub record CanEnd (view : JobView) (played : Played) : Type 0 where
  pub request : IsRequest view.request
  pub dated : IfSome view.dated (AreDatedFor view.dossier)
  pub named : NamesIn view.request.mode view.index
  pub index : view.index ≡ ids_in view.dossier
  pub falls : Falls
  pub before : Lent
  pub after : Lent
  pub plays : IsPlayedKept (wanted_with view.request falls) view.dossier (terms_in view.dated)
      before played after

-- what all modes may use once the days have led to a desk
pub record CanBeEnded (view : JobView) (played : Played) (desk : DeskStates) : Type 0 where
  pub request : IsRequest view.request
  pub named : NamesIn view.request.mode view.index
  pub index : view.index ≡ ids_in view.dossier
  pub dated : IfSome view.dated (AreDatedFor view.dossier)
  pub called : AreCallOrders view.dossier.groups played.orders
  pub number : length played.days ≡ days_of view.request
  pub days : All (CanBeWritten view.dossier view.dated) played.days
  pub offers : CanBeDated view.dated desk.present
  pub last : IsDeskAfter view.dossier played.orders played.days desk
  pub idle : days_of view.request ≡ 0 → desk.present ≡ first_evening view.dossier

-- how a mode ends that is lent a picker, which is there again afterwards
pub record EndsLent {E : Type 0} (view : JobView) (played : Played) (desk : DeskStates)
    (before after : Asked) (result : Result Reply E) : Type 0 where
  pub ends : IfOk result
      (λ reply. IsEndOf view.request.mode view played desk reply.exit reply.text.items)
  pub picks : IfOk result
      (λ reply. TellsPicks (ArePicks view.request.mode view played desk before)
      before.told after.told)
  pub breaks : OnErr result (BreaksPicks view.request.mode view played desk before after.told)
  pub choice : after.choice ≡ before.choice

-- how a run ends after its days, with the pickers as they stand between the days and the ending,
-- and afterwards
pub record EndsAfter {E : Type 0} (end : Result DeskStates Refusal) (view : JobView)
    (played : Played) (between after : Lent) (result : Result Reply E) : Type 0 where
  pub ends : IfOk result (λ reply. EndsWith end view played reply.exit reply.text.items)
  pub tells : IfOk result (λ reply. TellsAfter end view played between after)
  pub breaks : OnErr result (BreaksEnding end view played between after)
  pub lends : IsLent (picker_after view.request) between after

-- what an ending rests on, and how it ends, by what a run is to do and by days that led to a desk
abbrev pub CanEndPlayed : Task → AllPlayed → Type 0
CanEndPlayed task played = CanBeEnded (view_in task) (played_by played) played.last.desk

abbrev pub LendsPlayed : {E : Type 0} → Task → AllPlayed → Asked → Asked → Result Reply E → Type 0
LendsPlayed task played = EndsLent (view_in task) (played_by played) played.last.desk

abbrev pub EndsPlayed : {E : Type 0} → Task → AllPlayed → Lent → Lent → Result Reply E → Type 0
EndsPlayed task played = EndsAfter (Ok played.last.desk) (view_in task) (played_by played)

-- a job's days were played with these pickers, and the run ends by its mode, with the pickers as
-- they stand between the two
pub record IsEnding (job : Job) (before after : Lent) (exit : Exit) (text : List ℕ) : Type 0 where
  pub played : Played
  pub between : Lent
  pub days : AreDaysOf job before played between
  pub tells : TellsAfter played.end (seen_of job) played between after
  pub lends : IsLent (picker_after job.request) between after
  pub ends : EndsWith played.end (seen_of job) played exit text

-- memory ran out on one of a job's days
pub record BreaksDaysOf (job : Job) (before after : Lent) : Type 0 where
  pub orders : List CallOrder
  pub called : AreCallOrders (dossier job).groups orders
  pub breaks : BreaksDays
      (record { orders = orders; terms = terms_of job; who = job.request.picker })
      (days_of job.request) (first_desk (dossier job)) before after

-- memory ran out after a job's days, with the pickers as they stand between the two
pub record BreaksEndingOf (job : Job) (before after : Lent) : Type 0 where
  pub played : Played
  pub between : Lent
  pub days : AreDaysOf job before played between
  pub breaks : BreaksEnding played.end (seen_of job) played between after
  pub lends : IsLent (picker_after job.request) between after

-- memory ran out in a run over a job: before its days, on one of them, or after them. The pickers
-- told of a beginning of what the run would have told them
abbrev pub BreaksJob : Job → Lent → Lent → Type 0
BreaksJob job before after =
    Untold before after ⊎ BreaksDaysOf job before after ⊎ BreaksEndingOf job before after

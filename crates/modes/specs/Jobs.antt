-- What a job asks of its days.
use Rattle.std.specs.Prelude.{◌≡◌, ◌<◌, ℕ, ◌+◌, Bool, List, Option, None, IsTrue, is_some, length, not}
use Rattle.std.specs.Prelude.{option_map, if◌then◌else◌}
use Rattle.admit_core.specs.CallOrder.{AreCallOrders}
use Rattle.admit_core.specs.Days.{Days, first_evening, unfit_on}
use Rattle.admit_core.specs.DossierRows.{DossierRows}
use Rattle.admit_core.specs.Standing.{dossier_of}
use Rattle.admit_core.specs.State.{State}
use Rattle.admit_core.specs.declared.ranking.CallOrder.{CallOrder}
use Rattle.admit_core.specs.declared.records.DayRecord.{DayRecord}
use Rattle.admit_core.specs.declared.records.Terms.{Terms}
use Rattle.dossier_check.specs.Dates.{dates_of}
use Rattle.dossier_check.specs.Ids.{Ids, ids_of}
use Rattle.intake.specs.Dated.{dated_from, terms_in}
use Rattle.intake.specs.Input.{Job}
use Rattle.intake.specs.declared.input.Input.{Input}
use Rattle.intake.specs.declared.terms.DatedTerms.{DatedTerms}
use Rattle.played.specs.declared.wanted.Wanted.{Wanted}
use Rattle.request.specs.Modes.{picks_after, runs_days, sample_of}
use Rattle.request.specs.Pickers.{picker_on}
use Rattle.request.specs.declared.modes.Mode.{Mode}
use Rattle.request.specs.declared.modes.Mode.TheVariants.{Replay, Chain, Sample}
use Rattle.request.specs.declared.pickers.PickerName.{PickerName}
use Rattle.request.specs.declared.request.Deadlines.{Deadlines}
use Rattle.request.specs.declared.request.Request.{Request}
use Rattle.round.specs.KeptFalls.{are_kept}
use Rattle.round.specs.declared.falls.Falls.{Falls}
use Rattle.round.specs.declared.falls.Falls.TheVariants.{Kept, LeftOut}

-- how many days are run
abbrev pub days_of : Request → ℕ
days_of request = if runs_days request.mode then request.days else 0

-- all falls are kept where the text of a mode tells them, or how many there were
abbrev pub falls_of : Mode → Falls
falls_of Replay = Kept
falls_of Chain = Kept
falls_of (Sample number) = Kept
falls_of _ = LeftOut

abbrev pub keeps_falls : Mode → Bool
keeps_falls mode = are_kept (falls_of mode)

-- which days of a request are wanted, where so much is kept of their falls
abbrev pub wanted_with : Request → Falls → Wanted
wanted_with request falls = record { number = days_of request; who = request.picker; falls = falls }

-- the same by what its mode keeps of them
abbrev pub wanted_of : Request → Wanted
wanted_of request = wanted_with request (falls_of request.mode)

-- the picker that the ending is lent, of the modes that ask one once their days are over
abbrev pub picker_after : Request → Option PickerName
picker_after request = option_map (picker_on request.picker) (picks_after request.mode request.days)

-- a run of this request asks no picker: its mode runs no day, and its ending is lent none
pub record IsIdle (request : Request) : Type 0 where
  pub no_day : IsTrue (not (runs_days request.mode))
  pub none_after : picker_after request ≡ None

-- when offers lapse; in a sample they do not
abbrev pub deadlines_of : Request → Option Deadlines
deadlines_of request = if is_some (sample_of request.mode) then None else request.deadlines

abbrev pub dossier : Job → DossierRows
dossier job = dossier_of job.tables

-- the terms of a job's offers, where these lapse
abbrev pub dated_of : Job → Option DatedTerms
dated_of job =
    option_map (dated_from (dossier job) (dates_of job.tables)) (deadlines_of job.request)

abbrev pub terms_of : Job → Option Terms
terms_of job = terms_in (dated_of job)

-- what the modes see of a job: no tables, which are dropped before the days
pub record JobView : Type 0 where
  pub request : Request
  pub dossier : DossierRows
  pub index : Ids
  pub chain : List ℕ
  pub dated : Option DatedTerms

abbrev pub view_of : Request → Input → Option DatedTerms → JobView
view_of request input dated =
    record {
      request = request;
      dossier = input.dossier;
      index = input.index;
      chain = input.chain;
      dated = dated;
    }

abbrev pub seen_of : Job → JobView
seen_of job =
    record {
      request = job.request;
      dossier = dossier job;
      index = ids_of job.tables;
      chain = job.chain;
      dated = dated_of job;
    }

-- the first days of a job's campaign, and the evening of the last of them
pub record AreDays (job : Job) (orders : List CallOrder) (days : List DayRecord)
    (evening : State) : Type 0 where
  pub called : AreCallOrders (dossier job).groups orders
  pub run : Days (terms_of job) orders 1 (first_evening (dossier job)) days evening

-- each answer fits on each day that is run: after days of the job no answer of the next day is
-- unfit
abbrev pub FitsAnswers : Job → Type 0
FitsAnswers job =
    (orders : List CallOrder) (days : List DayRecord) (evening : State)
    → AreDays job orders days evening
    → length days < days_of job.request
    → unfit_on (terms_of job) (length days + 1) evening ≡ None

-- A day on a desk from the day that is played on its states.
use Rattle.std.proofs.Common.{ℕ, ◌≡◌, Bool, List, ap, sym, subst, Option, Result, Ok, Err}
use Rattle.std.specs.Prelude.{IsErrAnd}
use Rattle.admit_core.specs.declared.ranking.CallOrder.{CallOrder}
use Rattle.admit_core.specs.declared.records.DayRecord.{DayRecord}
use Rattle.admit_core.specs.declared.records.Terms.{Terms}
use Rattle.admit_core.specs.State.{State}
use Rattle.admit_core.specs.Days.{morning, unfit_on}
use Rattle.round.specs.KeptFalls.{IsKeptOf}
use Rattle.desk_day.specs.AnswersOn.{IsUnfitOf}
use Rattle.desk_day.specs.DayPasses.{TellsOfPasses}
use Rattle.desk_day.specs.DeskStates.{DeskStates}
use Rattle.desk_day.specs.KeptDays.{kept_result}
use Rattle.desk_day.specs.RunDay.{Moment, IsDayDone, EndsDay, KeepsOpening, TellsNoneUnfit}
use Rattle.desk_day.specs.Running.{IsUndone, RunningStates, moment_on}
use Rattle.desk_day.proofs.PassesSoFar.{tells_still}
use Rattle.desk_day.proofs.ToldPasses.{told_nothing}
use Rattle.desk_day.specs.declared.refusal.DayRefusal.{DayRefusal}
use Rattle.desk_day.specs.declared.refusal.DayRefusal.TheVariants as refusals

-- a day that is handed on as refused is kept as refused
pub kept_refused : {Holds : Result DayRecord DayRefusal → Type 0} (keeps : Bool) (result : Result DayRecord DayRefusal)
    (refusal : DayRefusal) → IsErrAnd result (λ e. e ≡ refusal) → Holds (Err refusal)
    → IsKeptOf (kept_result keeps) Holds result
kept_refused keeps (Ok day) refusal is holds = absurd is
kept_refused keeps (Err e) refusal is holds = (Err refusal, holds, ap Err is)

-- nothing was told, and the opening is as it was
pub keeps_still : (before after : State) → after ≡ before → (refusal : DayRefusal) → KeepsOpening before after refusal
keeps_still before after same (refusals.Unfit refusal) = same
keeps_still before after same refusals.OutOfMemory = tt

pub tells_none : (before after : List ℕ) → after ≡ before → (refusal : DayRefusal) → TellsNoneUnfit before after refusal
tells_none before after same (refusals.Unfit refusal) = same
tells_none before after same refusals.OutOfMemory = tells_still before after same

-- a day whose answers were not all done has made no pass
pub not_begun : (terms : Option Terms) (orders : List CallOrder) (ceilings : List ℕ) (day : ℕ)
    (before after : Moment) (refusal : DayRefusal)
    → IsUnfitOf before.desk.present.dossier day (unfit_on terms day before.desk.present) refusal
    → after.desk.opening ≡ before.desk.opening → after.told ≡ before.told
    → IsUndone terms orders ceilings day before after refusal
not_begun terms orders ceilings day before after refusal unfit opening told =
    let nothing = told_nothing orders ceilings day before.choice (morning terms day before.desk.present) before.told in
    record {
      unfit = unfit;
      unopened = keeps_still before.desk.opening after.desk.opening opening refusal;
      untold = tells_none before.told after.told told refusal;
      asked = subst (λ (ts : List ℕ). TellsOfPasses orders ceilings day (morning terms day before.desk.present)
          before.choice before.told ts) (sym told) nothing;
    }

-- a day on a desk from the day that ran on its states
module _ {terms : Option Terms} {orders : List CallOrder} {ceilings : List ℕ} {day : ℕ} {desk : DeskStates}
    {was new : RunningStates} {evening now : State} {told told_after : List ℕ}
    {choice choice_after : List ℕ → List ℕ → ℕ}
    (is : record { present = was.present; evening = evening; opening = was.opening } ≡ desk)
    (now_is : now ≡ was.present)
    (kept : choice_after ≡ choice) where
  pub ends_done : (done : DayRecord)
      → IsDayDone terms orders ceilings day (moment_on was was.present told choice) done
      (moment_on new was.present told_after choice_after)
      → new.present.dossier ≡ was.present.dossier
      → EndsDay terms orders ceilings day (record { desk = desk; told = told; choice = choice })
      (moment_on new now told_after choice_after) (Ok done)
  ends_done done came same =
      subst (λ (d : DeskStates). EndsDay terms orders ceilings day (record { desk = d; told = told; choice = choice })
      (moment_on new now told_after choice_after) (Ok done)) is (record {
        done = record {
          rule = record {
            number = came.rule.number;
            is_day = came.rule.is_day;
            opening = came.rule.opening;
            told = came.rule.told;
            chosen = came.rule.chosen;
          };
          follows = came.follows;
        };
        unfit = tt;
        restored = tt;
        evening = now_is;
        dossier = same;
        unopened = tt;
        untold = tt;
        asked = tt;
        choice = kept;
      })

  pub ends_undone : {noted : RunningStates} (refusal : DayRefusal) → noted.present ≡ was.present
      → noted.opening ≡ new.opening
      → IsUndone terms orders ceilings day (moment_on was was.present told choice)
      (moment_on new was.present told_after choice_after) refusal
      → EndsDay terms orders ceilings day (record { desk = desk; told = told; choice = choice })
      (moment_on noted now told_after choice_after) (Err refusal)
  ends_undone {noted} refusal restored opened undone =
      subst (λ (d : DeskStates). EndsDay terms orders ceilings day (record { desk = d; told = told; choice = choice })
      (moment_on noted now told_after choice_after) (Err refusal)) is (record {
        done = tt;
        unfit = undone.unfit;
        restored = restored;
        evening = now_is;
        dossier = ap (λ (s : State). s.dossier) restored;
        unopened = subst (λ (o : State). KeepsOpening was.opening o refusal) (sym opened) undone.unopened;
        untold = undone.untold;
        asked = undone.asked;
        choice = kept;
      })

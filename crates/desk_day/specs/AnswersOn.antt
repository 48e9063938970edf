-- The answers of a day, and the refusal of the first that does not fit.
use Rattle.std.specs.Prelude.{◌≡◌, ◌≤◌, ◌<◌, ◌+◌, ℕ, List, map, filter, length, All, Option, None, Result, Ok, Err}
use Rattle.std.specs.Prelude.{◌==◌, slice_index}
use Rattle.std.specs.List.{enumerate_from}
use Rattle.std.specs.Option.{IsSomeAnd}
use Rattle.admit_core.specs.declared.dossier.Answer.{Answer}
use Rattle.admit_core.specs.declared.slot.Slot.TheVariants.{Answers}
use Rattle.admit_core.specs.declared.refusal.Reason.TheVariants.{UnfitAnswer}
use Rattle.admit_core.specs.declared.refusal.Refusal.{Refusal}
use Rattle.admit_core.specs.declared.state.Status.{Status}
use Rattle.admit_core.specs.declared.state.Stamp.{Stamp}
use Rattle.admit_core.specs.DossierRows.{DossierRows}
use Rattle.admit_core.specs.State.{State}
use Rattle.admit_core.specs.Answers.{after_all, first_unfit}
use Rattle.admit_core.specs.Days.{answers_of}
use Rattle.admit_core.specs.Validity.{IsTarget}
use Rattle.desk_day.specs.declared.refusal.DayRefusal.{DayRefusal}
use Rattle.desk_day.specs.declared.refusal.DayRefusal.TheVariants as refusals

-- the places in the dossier of a day's answers
abbrev pub places_on : DossierRows → ℕ → List ℕ
places_on d day = map (λ x. x.0) (filter (λ x. x.1.day == day) (enumerate_from 0 d.answers))

-- the refusal of the answer at a place of the dossier, with the status found; the header is row 1
abbrev pub refusal_at : ℕ → Status → Refusal
refusal_at place status = record { slot = Answers; row = place + 2; reason = UnfitAnswer status }

-- the refusal of an answer of a day that does not fit, with the status found
abbrev pub unfit_refusal : DossierRows → ℕ → ℕ × Status → Refusal
unfit_refusal d day x = refusal_at (slice_index (places_on d day) x.0) x.1

-- a day is refused as unfit by its first answer that does not fit, and for want of memory only
-- where each answer fits
abbrev pub IsUnfitOf : DossierRows → ℕ → Option (ℕ × Status) → DayRefusal → Type 0
IsUnfitOf d day unfit (refusals.Unfit refusal) =
    IsSomeAnd unfit (λ x. refusal ≡ unfit_refusal d day x)
IsUnfitOf d day unfit refusals.OutOfMemory = unfit ≡ None

-- the answers of a day, from the place of the first one on
pub record AreAnswersOn (d : DossierRows) (day first : ℕ) (answers : List Answer) : Type 0 where
  pub all : answers ≡ answers_of d day
  pub place : (k : ℕ) → k < length answers → slice_index (places_on d day) k ≡ first + k
  pub targets : All (λ a. IsTarget d a.kind a.target) answers
  pub few : first + length answers ≤ 16000000

abbrev pub answers_stamp : ℕ → Stamp
answers_stamp day = record { day = day; pass = 0 }

-- the answers of a day have been applied, or the first that does not fit is refused
abbrev pub IsApplied : State → ℕ → Result (Unit {0}) DayRefusal → State → Type 0
IsApplied old day (Ok x) new =
    (first_unfit 0 old (answers_stamp day) (answers_of old.dossier day) ≡ None)
    × (new ≡ after_all old (answers_stamp day) (answers_of old.dossier day))
IsApplied old day (Err refusal) new =
    IsSomeAnd (first_unfit 0 old (answers_stamp day) (answers_of old.dossier day))
    (λ x. refusal ≡ refusals.Unfit (unfit_refusal old.dossier day x))

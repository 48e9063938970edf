-- What a run of the mode `chain` proves to a run of `check`, and to one of `replay`.
use Rattle.std.specs.Prelude.{◌≡◌, ℕ, ◌≤◌, List, Option, Some, Ok, length}
use Rattle.admit_core.specs.State.{State}
use Rattle.admit_core.specs.declared.ranking.CallOrder.{CallOrder}
use Rattle.admit_core.specs.declared.records.DayRecord.{DayRecord}
use Rattle.admit_core.specs.declared.slot.Slot.{Slot}
use Rattle.admit_core.specs.declared.slot.Slot.TheVariants as slot
use Rattle.certificate.specs.ChainText.{chain_text}
use Rattle.intake.specs.Input.{Job, accepted}
use Rattle.modes.specs.Checking.{proved_text}
use Rattle.modes.specs.Jobs.{AreDays, dated_of, dossier}
use Rattle.modes.specs.Replay.{replay_text}
use Rattle.modes.specs.declared.exit.Exit.{Exit}
use Rattle.modes.specs.declared.exit.Exit.TheVariants.{Done}
use Rattle.played.specs.Lent.{Lent}
use Rattle.replay_cli.specs.Outcome.{IsOutcome}
use Rattle.request.specs.Request.{request_of}
use Rattle.request.specs.declared.modes.Mode.{Mode}
use Rattle.request.specs.declared.modes.Mode.TheVariants.{Chain, Check, Replay}
use Rattle.request.specs.declared.pickers.PickerChoice.{PickerChoice}
use Rattle.request.specs.declared.request.Deadlines.{Deadlines}

-- these words, which ask for a mode, for so many days and under these deadlines, had this outcome
-- over slots of these bytes, with whatever pickers
pub record Ran (mode : Mode) (days : ℕ) (deadlines : Option Deadlines) (words : List (List ℕ))
    (slots : Slot → List ℕ) (exit : Exit) (text : List ℕ) : Type 0 where
  pub picker : PickerChoice
  pub before : Lent
  pub after : Lent
  pub asks : request_of words
      ≡ Some (record { mode = mode; days = days; picker = picker; deadlines = deadlines })
  pub is_outcome : IsOutcome words slots before after exit text

-- the same bytes, but for a text in the chain slot
abbrev pub with_chain : List ℕ → (Slot → List ℕ) → Slot → List ℕ
with_chain text slots slot.Chain = text
with_chain text slots other = slots other

-- a text is the chain of so many days of a job, and what a check says of it is that they are
-- proved, and their evening
pub record IsProved (job : Job) (number : ℕ) (text checked : List ℕ) : Type 0 where
  pub orders : List CallOrder
  pub days : List DayRecord
  pub evening : State
  pub are_days : AreDays job orders days evening
  pub as_many : length days ≡ number
  pub is_chain : text ≡ chain_text (dossier job) days
  pub is_proof : checked ≡ proved_text number evening (dated_of job)

-- a check of the text of `chain` over the same slots and under the same deadlines is done, whatever
-- else its words and its pickers are
abbrev pub ChainsAreProved : Type 0
ChainsAreProved =
    (days number : ℕ) (deadlines : Option Deadlines) (words check_words : List (List ℕ))
    (slots : Slot → List ℕ) (exit : Exit) (text checked : List ℕ)
    → length text ≤ 1073741824
    → Ran Chain days deadlines words slots Done text
    → Ran Check number deadlines check_words (with_chain text slots) exit checked
    → (exit ≡ Done) × (job : Job) × (accepted words slots ≡ Ok job)
    × IsProved job days text checked

-- the text of a replay, and what a check says of as many days, whose evening is that of the replay
pub record EndAlike (job : Job) (number : ℕ) (replayed checked : List ℕ) : Type 0 where
  pub orders : List CallOrder
  pub days : List DayRecord
  pub evening : State
  pub are_days : AreDays job orders days evening
  pub as_many : length days ≡ number
  pub is_replay : replayed ≡ replay_text (dossier job) (dated_of job) orders days evening
  pub is_proof : checked ≡ proved_text number evening (dated_of job)

-- the final state behind the proved days is the one that `replay` writes of as many days, whoever
-- picked in it
abbrev pub ChecksEndAsReplays : Type 0
ChecksEndAsReplays =
    (days number : ℕ) (deadlines : Option Deadlines) (words chain_words check_words : List (List ℕ))
    (slots : Slot → List ℕ) (exit : Exit) (replayed text checked : List ℕ)
    → length text ≤ 1073741824
    → Ran Replay days deadlines words slots Done replayed
    → Ran Chain days deadlines chain_words slots Done text
    → Ran Check number deadlines check_words (with_chain text slots) exit checked
    → (exit ≡ Done) × (job : Job) × (accepted words slots ≡ Ok job)
    × EndAlike job days replayed checked

-- What a run does, as a whole: its exit, what it takes and writes, and what becomes of the pickers.
use Rattle.std.specs.Prelude.{ℕ, List, Option, None, Some, Result, Ok, Err, IsTrue, option_map}
use Rattle.admit_core.specs.declared.slot.Slot.{Slot}
use Rattle.admit_core.specs.declared.refusal.OutOfMemory.{OutOfMemory}
use Rattle.intake.specs.Input.{Job, job_of}
use Rattle.intake.specs.Shelves.{Tells}
use Rattle.intake.specs.declared.stop.Stop.{Stop}
use Rattle.intake.specs.declared.stop.Stop.TheVariants as stops
use Rattle.modes.specs.Exits.{is_answer}
use Rattle.modes.specs.declared.exit.Exit.{Exit}
use Rattle.modes.specs.declared.reply.Reply.{Reply}
use Rattle.played.specs.Lent.{Lent}
use Rattle.replay_cli.specs.Delivering.{Delivers}
use Rattle.replay_cli.specs.Outcome.{IsStop, slots_read}
use Rattle.replay_cli.specs.Run.{Around, Writes}
use Rattle.morning_cli.specs.Answering.{RepliesSlot}
use Rattle.morning_cli.specs.SlotWanted.{asked_of}
use Rattle.morning_cli.specs.Morning.{IsSlotEnding}
use Rattle.morning_cli.specs.declared.asked.Asked.{Asked}

-- a run over an accepted job ends with its slot, or as one of `replay` is refused; any other stops
abbrev pub EndsSlot : Slot → Result Job Stop → Lent → Lent → Exit → List ℕ → Type 0
EndsSlot slot (Ok job) = IsSlotEnding slot job
EndsSlot slot (Err stop) = IsStop stop

abbrev pub OutcomeFor : Option Asked → (Slot → List ℕ) → Lent → Lent → Exit → List ℕ → Type 0
OutcomeFor None slots = IsStop stops.BadWords
OutcomeFor (Some asked) slots = EndsSlot asked.slot (job_of asked.request slots)

-- the exit and the text of a run with these words over slots of these bytes, with pickers that
-- stand so before it and after it
abbrev pub IsSlotOutcome : List (List ℕ) → (Slot → List ℕ) → Lent → Lent → Exit → List ℕ → Type 0
IsSlotOutcome words slots = OutcomeFor (asked_of words) slots

-- the slots that a run reads; with bad words it reads none
abbrev pub slots_asked : List (List ℕ) → List Slot
slots_asked words = slots_read (option_map (λ x. x.request) (asked_of words))

-- where the shelf tells these bytes, and the exit is one that they determine, the exit and the text
-- are the outcome
abbrev pub WritesOutcome : List (List ℕ) → Around → Around → Exit → Type 0
WritesOutcome words before after exit =
    (slots : Slot → List ℕ) → Tells (slots_asked words) before.shelf.left slots
    → IsTrue (is_answer exit)
    → Writes before after (IsSlotOutcome words slots before.pickers after.pickers exit)

-- a run with these words, from what stood around it before to what stands after it: it came to a
-- reply, this was written, and where the shelf tells its bytes it is the outcome
pub record IsSlotRun (words : List (List ℕ)) (before after : Around) (exit : Exit) : Type 0 where
  pub reply : Result Reply OutOfMemory
  pub replies : RepliesSlot words before.shelf after.shelf before.pickers after.pickers reply
  pub delivers : Delivers reply before.sink after.sink exit
  pub outcome : WritesOutcome words before after exit

-- How a run ends and what it writes, by its words and the slots' bytes.
use Rattle.std.specs.Prelude.{◌≡◌, ℕ, List, [], Option, None, Some, Result, Ok, Err, IsSome, ⊤}
use Rattle.admit_core.specs.declared.slot.Slot.{Slot}
use Rattle.intake.specs.Input.{Job, accepted}
use Rattle.intake.specs.Shelves.{IsFaultAt, OnShelf}
use Rattle.intake.specs.Stops.{stop_text}
use Rattle.intake.specs.declared.stop.Stop.{Stop}
use Rattle.intake.specs.declared.stop.Stop.TheVariants as stops
use Rattle.modes.specs.Endings.{BreaksJob, IsEnding}
use Rattle.modes.specs.Exits.{exit_of}
use Rattle.modes.specs.Jobs.{IsIdle}
use Rattle.modes.specs.declared.exit.Exit.{Exit}
use Rattle.played.specs.Lent.{Lent, Untold}
use Rattle.request.specs.Modes.{slots_of}
use Rattle.request.specs.declared.request.Request.{Request}

-- a run stops before its days: no picker is asked, and the line that says why is written
pub record IsStop (stop : Stop) (before after : Lent) (exit : Exit) (text : List ℕ) : Type 0 where
  pub is_exit : exit ≡ exit_of stop
  pub is_line : text ≡ stop_text stop
  pub untold : Untold before after

-- a run over an accepted job ends by its mode; any other stops
abbrev pub Ends : Result Job Stop → Lent → Lent → Exit → List ℕ → Type 0
Ends (Ok job) = IsEnding job
Ends (Err stop) = IsStop stop

-- the exit and the text of a run with these words over slots of these bytes, with pickers that
-- stand so before it and after it
unfoldable pub IsOutcome : List (List ℕ) → (Slot → List ℕ) → Lent → Lent → Exit → List ℕ → Type 0
IsOutcome words slots = Ends (accepted words slots)

-- what the pickers told where memory ran out before there was a text: over an accepted job a
-- beginning of what it would have told them, and over any other nothing
abbrev pub Breaks : Result Job Stop → Lent → Lent → Type 0
Breaks (Ok job) = BreaksJob job
Breaks (Err stop) = Untold

-- the same with these words over slots of these bytes
unfoldable pub IsBroken : List (List ℕ) → (Slot → List ℕ) → Lent → Lent → Type 0
IsBroken words slots = Breaks (accepted words slots)

-- the slots that a run reads; with bad words it reads none
abbrev pub slots_read : Option Request → List Slot
slots_read None = []
slots_read (Some request) = slots_of request.mode

-- what is asked for runs no day, and asks no picker after its days
abbrev pub WantsNoPicker : Option Request → Type 0
WantsNoPicker None = ⊤
WantsNoPicker (Some request) = IsIdle request

-- the line of a slot that is read and could not be: its count rose, and those read before it have
-- their sizes and shapes
pub record NamesFault (request : Option Request) (before after : OnShelf)
    (line : List ℕ) : Type 0 where
  pub good_words : IsSome request
  pub slot : Slot
  pub fault : IsFaultAt (slots_read request) before after slot
  pub is_line : line ≡ stop_text (stops.ReadFault slot)

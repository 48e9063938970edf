-- What a run does, as a whole: its exit, what it takes and writes, and what becomes of the pickers.
use Rattle.std.specs.Prelude.{◌≡◌, ◌⊎◌, ◌≤◌, ℕ, ◌+◌, List, [], Contains, Some, IsNone, IsOkAnd, IsTrue}
use Rattle.std.specs.Io.KnownBytes.{Appends}
use Rattle.admit_core.specs.declared.slot.Slot.{Slot}
use Rattle.intake.specs.Input.{accepted}
use Rattle.intake.specs.Shelves.{OnShelf, Tells}
use Rattle.modes.specs.Exits.{ends_unasked, is_answer}
use Rattle.modes.specs.Checking.{CanBeDone}
use Rattle.modes.specs.declared.exit.Exit.{Exit}
use Rattle.modes.specs.declared.exit.Exit.TheVariants.{BadWords, Done, NoMemory, ReadFault, WriteFault}
use Rattle.played.specs.Lent.{AreBack, Lent, Untold}
use Rattle.request.specs.Request.{request_of}
use Rattle.slot_io.specs.Bytes.{AppendsPart}
use Rattle.slot_io.specs.Faults.{NoneFell, Rose}
pub use Rattle.slot_io.specs.Sinks.{AtSink, at_sink}
use Rattle.replay_cli.specs.Outcome.{IsBroken, WantsNoPicker, IsOutcome, NamesFault, slots_read}

-- what stands around a run, before it or after it
pub record Around : Type 0 where
  pub shelf : OnShelf
  pub sink : AtSink
  pub pickers : Lent

-- a text was written whole, or not all of it
abbrev pub Writes : Around → Around → (List ℕ → Type 0) → Type 0
Writes before after IsText =
    (text : List ℕ) × IsText text × Appends before.sink.held after.sink.held text

abbrev pub WritesPart : Around → Around → (List ℕ → Type 0) → Type 0
WritesPart before after IsText =
    (text : List ℕ) × IsText text × AppendsPart before.sink.held after.sink.held text

-- the line of a read fault; no picker was asked
pub record IsFaultLine (words : List (List ℕ)) (before after : Around)
    (line : List ℕ) : Type 0 where
  pub names : NamesFault (request_of words) before.shelf after.shelf line
  pub untold : Untold before.pickers after.pickers

-- what is written where nothing is cut off: the outcome's text, or the line of a read fault
abbrev pub IsWhole : List (List ℕ) → (Slot → List ℕ) → Around → Around → List ℕ → Type 0
IsWhole words slots before after text =
    ((exit : Exit) × IsOutcome words slots before.pickers after.pickers exit text)
    ⊎ IsFaultLine words before after text

-- memory ran out before there was a text: nothing is written, and the pickers told of a beginning
-- of what the run would have told them
pub record BreaksOff (words : List (List ℕ)) (slots : Slot → List ℕ)
    (before after : Around) : Type 0 where
  pub unwritten : Appends before.sink.held after.sink.held []
  pub broken : IsBroken words slots before.pickers after.pickers

-- no call of the shelf or the sink failed
pub record NoneFails (before after : Around) : Type 0 where
  pub reads : (slot : Slot) → ¬ Rose (before.shelf.faults slot) (after.shelf.faults slot)
  pub writes : ¬ Rose before.sink.faults after.sink.faults

-- what holds of a run where the shelf tells these bytes of the slots that are read
pub record Answers (words : List (List ℕ)) (slots : Slot → List ℕ) (before after : Around)
    (exit : Exit) : Type 0 where
  -- the exit and the text are the outcome of the words and these bytes
  pub outcome : IsTrue (is_answer exit)
      → Writes before after (IsOutcome words slots before.pickers after.pickers exit)
  -- the slots that are read are read to their end
  pub ends : exit ≡ Done → (slot : Slot) → Contains (slots_read (request_of words)) slot
      → after.shelf.left slot ≡ Some []
  -- a run that is cut off has written the beginning of its text, and not all of it; where memory
  -- runs out it may be that there was no text
  pub cut_off : exit ≡ WriteFault → WritesPart before after (IsWhole words slots before after)
  pub no_memory : exit ≡ NoMemory → BreaksOff words slots before after
      ⊎ WritesPart before after (IsWhole words slots before after)
  -- where the job is accepted, each answer fits, a chain that is handed in proves its days, and no
  -- call fails, the run is done, or memory ran out
  pub complete : IsOkAnd (accepted words slots) CanBeDone → NoneFails before after → (exit ≡ Done)
      ⊎ (exit ≡ NoMemory)

-- no read of a shelf failed, and of no slot more was taken than the greatest size of one
pub record IsQuiet (before after : OnShelf) : Type 0 where
  pub faults : (slot : Slot) → after.faults slot ≡ before.faults slot
  pub sizes : (slot : Slot) → after.taken slot ≤ before.taken slot + 1073741824

-- want of memory hides no fault: no read failed, no slot was too large, and no write failed
pub record HidesNothing (shelf shelf' : OnShelf) (sink sink' : AtSink) : Type 0 where
  pub reads : IsQuiet shelf shelf'
  pub writes : sink'.faults ≡ sink.faults

-- the same of a run with this exit, where its sink can't lack memory
abbrev pub HidesNone : Type 0 → OnShelf → OnShelf → AtSink → AtSink → Exit → Type 0
HidesNone MayLack shelf shelf' sink sink' exit =
    ¬ MayLack → exit ≡ NoMemory → HidesNothing shelf shelf' sink sink'

-- with bad words no slot is touched
pub record IsRefusal (before after : Around) (exit : Exit) : Type 0 where
  pub exits : (exit ≡ BadWords) ⊎ (exit ≡ WriteFault) ⊎ (exit ≡ NoMemory)
  pub shelf : after.shelf ≡ before.shelf

-- the slots that are not read are as they were, whether or not the shelf tells their bytes
pub record KeepsOthers (order : List Slot) (before after : OnShelf) : Type 0 where
  pub left : (slot : Slot) → ¬ Contains order slot → after.left slot ≡ before.left slot
  pub taken : (slot : Slot) → ¬ Contains order slot → after.taken slot ≡ before.taken slot
  pub faults : (slot : Slot) → ¬ Contains order slot → after.faults slot ≡ before.faults slot

-- these slots' counts of faults are as they were
abbrev pub SameFaults : List Slot → OnShelf → OnShelf → Type 0
SameFaults order before after =
    (slot : Slot) → Contains order slot → after.faults slot ≡ before.faults slot

-- no count of faults fell
pub record NoCountFell (before after : Around) : Type 0 where
  pub reads : NoneFell before.shelf.faults after.shelf.faults
  pub writes : before.sink.faults ≤ after.sink.faults

-- a run with these words, from what stood around it before to what stands after it
pub record IsRun (words : List (List ℕ)) (before after : Around) (exit : Exit) : Type 0 where
  -- what is asked for, of the bytes of the slots that are read, where the shelf tells them
  pub answers : (slots : Slot → List ℕ)
      → Tells (slots_read (request_of words)) before.shelf.left slots
      → Answers words slots before after exit
  -- when a run ends otherwise
  pub bad_words : exit ≡ BadWords → IsNone (request_of words)
  pub words_first : IsNone (request_of words) → IsRefusal before after exit
  pub read_fault : exit ≡ ReadFault → Writes before after (IsFaultLine words before after)
  -- an answer comes only where no count of these rose: no fault was taken for the end of a slot
  pub same_faults : IsTrue (is_answer exit)
      → SameFaults (slots_read (request_of words)) before.shelf after.shelf
  pub write_fault : exit ≡ WriteFault → Rose before.sink.faults after.sink.faults
  -- what becomes of the pickers and of the slots, whether or not the shelf tells their bytes
  pub untold : IsTrue (ends_unasked exit) → Untold before.pickers after.pickers
  pub idle : WantsNoPicker (request_of words) → Untold before.pickers after.pickers
  pub back : AreBack before.pickers after.pickers
  pub others : KeepsOthers (slots_read (request_of words)) before.shelf after.shelf
  pub counts : NoCountFell before after

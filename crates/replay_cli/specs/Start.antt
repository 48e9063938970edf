-- The one run of a program, whose three pickers are new.
use Rattle.std.specs.Prelude.{◌≡◌, ◌⊎◌, ℕ, List, []}
use Rattle.bar_fixpoint.specs.Choices.{first_of, last_of, turn_of}
use Rattle.intake.specs.Shelves.{OnShelf}
use Rattle.modes.specs.Exits.{exit_number}
use Rattle.modes.specs.declared.exit.Exit.{Exit}
use Rattle.modes.specs.declared.exit.Exit.TheVariants.{NoMemory}
use Rattle.played.specs.Lent.{Lent}
use Rattle.request.specs.declared.pickers.PickerName.{PickerName}
use Rattle.request.specs.declared.pickers.PickerName.TheVariants.{First, Last, Turn}
use Rattle.replay_cli.specs.Run.{Around, AtSink, HidesNone}

-- the pickers have told nothing, and each in its place chooses as its name says
pub record AreNew (pickers : Lent) : Type 0 where
  pub told : (name : PickerName) → pickers.told name ≡ []
  pub first : (told places : List ℕ) → pickers.choice First told places ≡ first_of places
  pub last : (told places : List ℕ) → pickers.choice Last told places ≡ last_of places
  pub turn : (told places : List ℕ) → pickers.choice Turn told places ≡ turn_of told places

-- such a run with new pickers, over a shelf and a sink as they stand before it and after it; where
-- the sink can't lack memory, want of memory hides no fault
pub record IsNewRun (IsRun : Around → Around → Exit → Type 0) (MayLack : Type 0)
    (shelf shelf' : OnShelf) (sink sink' : AtSink) (exit : Exit) : Type 0 where
  pub pickers : Lent
  pub pickers' : Lent
  pub are_new : AreNew pickers
  pub is_run : IsRun (record { shelf = shelf; sink = sink; pickers = pickers })
      (record { shelf = shelf'; sink = sink'; pickers = pickers' }) exit
  pub hides : HidesNone MayLack shelf shelf' sink sink' exit

-- nothing was read, and nothing written
pub record IsUntouched (shelf shelf' : OnShelf) (sink sink' : AtSink) : Type 0 where
  pub shelf_kept : shelf' ≡ shelf
  pub sink_kept : sink' ≡ sink

-- memory ran out before the run
pub record LacksMemory (shelf shelf' : OnShelf) (sink sink' : AtSink) (number : ℕ) : Type 0 where
  pub untouched : IsUntouched shelf shelf' sink sink'
  pub is_number : number ≡ exit_number NoMemory

-- one such run with new pickers, and the number of its exit
pub record EndsRun (IsRun : Around → Around → Exit → Type 0) (MayLack : Type 0)
    (shelf shelf' : OnShelf) (sink sink' : AtSink) (number : ℕ) : Type 0 where
  pub exit : Exit
  pub is_run : IsNewRun IsRun MayLack shelf shelf' sink sink' exit
  pub is_number : number ≡ exit_number exit

-- a program of one such run, over a shelf and a sink as they stand before it and after it, and the
-- number that it ends with
abbrev pub Starts : (Around → Around → Exit → Type 0) → Type 0 → OnShelf → OnShelf → AtSink
    → AtSink → ℕ → Type 0
Starts IsRun MayLack shelf shelf' sink sink' number =
    EndsRun IsRun MayLack shelf shelf' sink sink' number
    ⊎ LacksMemory shelf shelf' sink sink' number

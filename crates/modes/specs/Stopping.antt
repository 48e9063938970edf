-- The reply of a run that stops before its days.
use Rattle.std.specs.Prelude.{◌≡◌, ◌≢◌, ◌≤◌, ◌<◌, ◌⊎◌, ℕ, List, [], String, length}
use Rattle.std.specs.Prelude.{string_bytes, string_capacity, string_len}
use Rattle.intake.specs.Stops.{stop_text}
use Rattle.intake.specs.declared.stop.Stop.{Stop}
use Rattle.intake.specs.declared.stop.Stop.TheVariants as stops
use Rattle.modes.specs.Exits.{exit_of}
use Rattle.modes.specs.declared.exit.Exit.{Exit}

-- the reply of a stop, which is not running out of memory
pub record IsStoppedBy (stop : Stop) (exit : Exit) (text : List ℕ) : Type 0 where
  pub not_memory : stop ≢ stops.OutOfMemory
  pub is_exit : exit ≡ exit_of stop
  pub is_line : text ≡ stop_text stop

-- an empty text with the room of a line
pub record HasLineRoom {Z : Type 0} (text : String Z) : Type 0 where
  pub empty : string_bytes text ≡ []
  pub none : string_len text ≡ 0
  pub room : 128 ≤ string_capacity text

-- a stop has no line: memory ran out before it, or the line would be longer than that room
abbrev pub HasNoLine : Stop → Type 0
HasNoLine stop = (stop ≡ stops.OutOfMemory) ⊎ (128 < length (stop_text stop))

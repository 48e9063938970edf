-- How a run ends, as the status of the program, and where it stops before its days.
use Rattle.std.specs.Prelude.{ℕ, Bool, true, false}
use Rattle.intake.specs.declared.stop.Stop.{Stop}
use Rattle.intake.specs.declared.stop.Stop.TheVariants as stops
use Rattle.modes.specs.declared.exit.Exit.{Exit}
use Rattle.modes.specs.declared.exit.Exit.TheVariants as exits

-- the status of the program
abbrev pub exit_number : Exit → ℕ
exit_number exits.Done = 0
exit_number exits.Refused = 1
exit_number exits.BadWords = 2
exit_number exits.ReadFault = 3
exit_number exits.WriteFault = 4
exit_number exits.NoMemory = 5
exit_number exits.NotProved = 6
exit_number exits.NoSuchWish = 7

abbrev pub exit_of : Stop → Exit
exit_of stops.BadWords = exits.BadWords
exit_of (stops.Refused refusal) = exits.Refused
exit_of (stops.ReadFault slot) = exits.ReadFault
exit_of (stops.NoSuch name) = exits.NoSuchWish
exit_of stops.OutOfMemory = exits.NoMemory

-- the exits that the words and the slots' bytes determine; the others come from outside
abbrev pub is_answer : Exit → Bool
is_answer exits.Done = true
is_answer exits.Refused = true
is_answer exits.BadWords = true
is_answer exits.ReadFault = false
is_answer exits.WriteFault = false
is_answer exits.NoMemory = false
is_answer exits.NotProved = true
is_answer exits.NoSuchWish = true

-- the exits at which no picker was asked, whatever is known of the slots
abbrev pub ends_unasked : Exit → Bool
ends_unasked exits.Done = false
ends_unasked exits.Refused = false
ends_unasked exits.BadWords = true
ends_unasked exits.ReadFault = true
ends_unasked exits.WriteFault = false
ends_unasked exits.NoMemory = false
ends_unasked exits.NotProved = false
ends_unasked exits.NoSuchWish = true

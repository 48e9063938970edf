-- What becomes of a reply: its text is written, and how the run ends.
use Rattle.std.specs.Prelude.{◌≡◌, ℕ, List, Option, None, Some, Result, Ok, Err}
use Rattle.std.specs.Io.KnownBytes.{Appends}
use Rattle.modes.specs.declared.exit.Exit.{Exit}
use Rattle.modes.specs.declared.exit.Exit.TheVariants.{NoMemory, WriteFault}
use Rattle.modes.specs.declared.reply.Reply.{Reply}
use Rattle.slot_io.specs.Bytes.{AppendsPart}
use Rattle.slot_io.specs.Faults.{Rose}
use Rattle.slot_io.specs.declared.refusal.IoRefusal.{IoRefusal}
use Rattle.slot_io.specs.declared.refusal.IoRefusal.TheVariants as refusals
use Rattle.replay_cli.specs.Run.{AtSink}

-- how a run ends, by why its text was not written whole and by the exit of its reply
abbrev pub exit_after : Option IoRefusal → Exit → Exit
exit_after None exit = exit
exit_after (Some refusals.Failed) exit = WriteFault
exit_after (Some refusals.OutOfMemory) exit = NoMemory

-- a sink took the whole text, or not all of it and refused the rest; its count of faults rose only
-- where it failed
abbrev pub Takes : List ℕ → AtSink → AtSink → Option IoRefusal → Type 0
Takes text before after None = Appends before.held after.held text
Takes text before after (Some refusals.Failed) =
    AppendsPart before.held after.held text × Rose before.faults after.faults
Takes text before after (Some refusals.OutOfMemory) =
    AppendsPart before.held after.held text × (after.faults ≡ before.faults)

-- the text of a reply is written, and the exit is the reply's where it was written whole; nothing
-- is written where there is no reply
abbrev pub Delivers : {E : Type 0} → Result Reply E → AtSink → AtSink → Exit → Type 0
Delivers (Err error) before after exit = (exit ≡ NoMemory) × (after ≡ before)
Delivers (Ok reply) before after exit = (refusal : Option IoRefusal)
    × Takes reply.text.items before after refusal × (exit ≡ exit_after refusal reply.exit)

-- What the devices tell and count.
use Rattle.std.specs.Prelude.{ℕ, List, Option, None, Some, codes}
use Rattle.admit_core.specs.Slots.{at}
use Rattle.admit_core.specs.declared.slot.Slot.{Slot}
use Rattle.admit_core.specs.declared.slot.Slot.TheVariants.{Groups, Programmes, Schools, Rankings, Boarding, Wishes}
use Rattle.admit_core.specs.declared.slot.Slot.TheVariants.{State, Ceilings, Answers, Chain}
use Rattle.slot_io.specs.declared.devices.DirShelf.{DirShelf}
use Rattle.slot_io.specs.declared.devices.WriterSink.{WriterSink}

-- how often the reads of a slot's file failed, and how many of its bytes were taken
abbrev pub dir_faults : {R F : Type 0} → DirShelf R F → Slot → ℕ
dir_faults shelf slot = at shelf.faults slot

abbrev pub dir_taken : {R F : Type 0} → DirShelf R F → Slot → ℕ
dir_taken shelf slot = at shelf.taken slot

-- the bytes that a sink over a writer holds, and how often its writes failed
abbrev pub writer_held : {W : Type 0} → (W → Option (List ℕ)) → WriterSink W → Option (List ℕ)
writer_held contents sink = contents sink.writer

abbrev pub writer_faults : {W : Type 0} → WriterSink W → ℕ
writer_faults sink = sink.faults

-- the name of a slot's file
abbrev pub file_name : Slot → List ℕ
file_name Groups = codes "groups.csv"
file_name Programmes = codes "programmes.csv"
file_name Schools = codes "schools.csv"
file_name Rankings = codes "rankings.csv"
file_name Boarding = codes "boarding.csv"
file_name Wishes = codes "wishes.csv"
file_name State = codes "state.csv"
file_name Ceilings = codes "ceilings.csv"
file_name Answers = codes "answers.csv"
file_name Chain = codes "chain.txt"

-- the bytes that a file has left; all those of its name where it is not open yet
abbrev pub left_of_file : {F : Type 0} → (F → Option (List ℕ)) → Option (List ℕ) → Option F
    → Option (List ℕ)
left_of_file remaining bytes None = bytes
left_of_file remaining bytes (Some file) = remaining file

-- the bytes that a slot's file has left, where the folder and its files tell them
abbrev pub dir_left : {R F : Type 0} → (R → List ℕ → Option (List ℕ)) → (F → Option (List ℕ))
    → DirShelf R F → Slot → Option (List ℕ)
dir_left bytes remaining shelf slot =
    left_of_file remaining (bytes shelf.rt (file_name slot)) (at shelf.files slot)

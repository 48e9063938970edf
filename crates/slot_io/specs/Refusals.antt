-- What a device answers, and what its refusal leads to.
use Rattle.std.specs.Prelude.{ℕ, ◌==◌, Result, Ok, Err, if◌then◌else◌}
use Rattle.slot_io.specs.Faults.{raised}
use Rattle.slot_io.specs.declared.refusal.IoRefusal.{IoRefusal}
use Rattle.slot_io.specs.declared.refusal.IoRefusal.TheVariants as io
use Rattle.slot_io.specs.declared.refusal.SlotRefusal.{SlotRefusal}
use Rattle.slot_io.specs.declared.refusal.SlotRefusal.TheVariants.{ReadFault, TooLarge, OutOfMemory}

-- what the reader of a slot answers
abbrev pub slot_refusal_of : IoRefusal → SlotRefusal
slot_refusal_of io.Failed = ReadFault
slot_refusal_of io.OutOfMemory = OutOfMemory

-- a count of faults after a call, which counts one exactly where it answers `Failed`
abbrev pub faults_after : {T : Type 0} → Result T IoRefusal → ℕ → ℕ
faults_after (Ok _) count = count
faults_after (Err io.Failed) count = raised count
faults_after (Err io.OutOfMemory) count = count

-- a slot's count of faults after it was read, which counts one exactly where a fault is told
abbrev pub faults_told : {T : Type 0} → Result T SlotRefusal → ℕ → ℕ
faults_told (Ok _) count = count
faults_told (Err ReadFault) count = raised count
faults_told (Err TooLarge) count = count
faults_told (Err OutOfMemory) count = count

-- what a device answers at a read: the number of bytes; any error is a failure
abbrev pub read_answer : {E : Type 0} → Result ℕ E → Result ℕ IoRefusal
read_answer (Ok count) = Ok count
read_answer (Err error) = Err io.Failed

-- the same at a write; one that takes no byte is a failure too
abbrev pub write_answer : {E : Type 0} → Result ℕ E → Result ℕ IoRefusal
write_answer (Ok count) = if count == 0 then Err io.Failed else Ok count
write_answer (Err error) = Err io.Failed

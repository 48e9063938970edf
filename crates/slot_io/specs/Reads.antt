-- What reads do to a shelf, by what they answer.
use Rattle.std.specs.Prelude.{◌≡◌, ℕ, ◌+◌, ◌≤◌, ◌⊎◌, List, Result, IfOk, IsErrOf, OnErr, Vec, vec_len}
use Rattle.std.specs.Io.{ReadsAtMost}
use Rattle.std.specs.Io.KnownBytes.{ReadConsumes}
use Rattle.admit_core.specs.declared.slot.Slot.{Slot}
use Rattle.slot_io.specs.Bytes.{CountsTaken, TakesAll, TakesAtMost, TakesMoreThan}
use Rattle.slot_io.specs.Faults.{Counted, Rose, raised_by}
use Rattle.slot_io.specs.Refusals.{faults_after, faults_told}
use Rattle.slot_io.specs.Shelves.{OnShelf, TouchesOnly}
use Rattle.slot_io.specs.declared.refusal.IoRefusal.{IoRefusal}
use Rattle.slot_io.specs.declared.refusal.IoRefusal.TheVariants as io
use Rattle.slot_io.specs.declared.refusal.SlotRefusal.{SlotRefusal}
use Rattle.slot_io.specs.declared.refusal.SlotRefusal.TheVariants.{TooLarge, OutOfMemory}

-- one read moved the first bytes left in the slot into the front of the buffer, or was refused
pub record IsRead (slot : Slot) (before after : OnShelf) (buffer : List ℕ)
    (result : Result ℕ IoRefusal) : Type 0 where
  pub bound : ReadsAtMost result buffer
  pub bytes : ReadConsumes (before.left slot) (after.left slot) result buffer
  pub taken : CountsTaken result (before.taken slot) (after.taken slot)
  pub fault : after.faults slot ≡ faults_after result (before.faults slot)
  pub others : TouchesOnly slot before after
  pub memory : ¬ IsErrOf result io.OutOfMemory

-- these are all the bytes that were left, each counted, and no more than the limit
pub record IsWhole {Z : Type 0} (limit : ℕ) (slot : Slot) (before after : OnShelf)
    (bytes : Vec ℕ Z) : Type 0 where
  pub all : TakesAll (before.left slot) (after.left slot) bytes.items
  pub within : vec_len bytes ≤ limit
  pub counted : Counted (vec_len bytes) (before.taken slot) (after.taken slot)

-- more than the limit was taken, and counted
pub record IsOver (limit : ℕ) (slot : Slot) (before after : OnShelf) : Type 0 where
  pub bytes : TakesMoreThan limit (before.left slot) (after.left slot)
  pub counted : raised_by (limit + 1) (before.taken slot) ≤ after.taken slot

-- all that was left in the slot was read, of at most `limit` bytes; or why it was not
pub record ReadsSlot {Z : Type 0} (limit : ℕ) (slot : Slot) (before after : OnShelf)
    (result : Result (Vec ℕ Z) SlotRefusal) : Type 0 where
  pub whole : IfOk result (IsWhole limit slot before after)
  pub refused : OnErr result (TakesAtMost (limit + 65536) (before.left slot) (after.left slot))
  -- too large exactly where more than the limit was taken
  pub over : IsErrOf result TooLarge → IsOver limit slot before after
  pub not_over : IsErrOf result TooLarge ⊎ (after.taken slot ≤ before.taken slot + limit)
  pub at_most : after.taken slot ≤ before.taken slot + limit + 65536
  -- so a slot with nothing left is never told as want of memory
  pub memory : IsErrOf result OutOfMemory → Rose (before.taken slot) (after.taken slot)
  pub fault : after.faults slot ≡ faults_told result (before.faults slot)
  pub others : TouchesOnly slot before after

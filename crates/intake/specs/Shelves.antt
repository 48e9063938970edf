-- What taking in slots does to a shelf.
use Rattle.std.specs.Prelude.{◌≡◌, ℕ, ◌+◌, ◌^◌, ◌<◌, ◌≤◌, ◌⊎◌, List, [], Contains, length, take, Option, Some, Result, Ok}
use Rattle.std.specs.Prelude.{Err, IfErr, IsErrAnd, IsOk, OnOk, slice_index_or, ⊤}
use Rattle.admit_core.specs.declared.refusal.Reason.TheVariants.{TooLarge}
use Rattle.admit_core.specs.declared.slot.Slot.{Slot}
use Rattle.slot_io.specs.Faults.{NoneFell, Rose}
pub use Rattle.slot_io.specs.Shelves.{OnShelf, on_shelf}
use Rattle.slot_io.specs.Shelves.{TouchesOnly}
use Rattle.intake.specs.Reading.{files_in}
use Rattle.intake.specs.declared.stop.Stop.{Stop}
use Rattle.intake.specs.declared.stop.Stop.TheVariants as stops

-- the shelf tells these bytes of the slots of the order
abbrev pub Tells : List Slot → (Slot → Option (List ℕ)) → (Slot → List ℕ) → Type 0
Tells order left slots = (slot : Slot) → Contains order slot → left slot ≡ Some (slots slot)

-- the slot at a place of the order could not be read: its count rose, and the slots before it have
-- their sizes and shapes
pub record IsFaultAt (order : List Slot) (before after : OnShelf) (slot : Slot) : Type 0 where
  pub place : ℕ
  pub within : place < length order
  pub is_there : slice_index_or order place slot ≡ slot
  pub rose : Rose (before.faults slot) (after.faults slot)
  pub shapes : (slots : Slot → List ℕ) → Tells order before.left slots
      → IsOk (files_in (take place order) slots)

-- one slot is read once: no more is taken of it than one reading may take, and no other is touched
pub record ReadsOnce (slot : Slot) (before after : OnShelf) : Type 0 where
  pub once : after.taken slot ≤ before.taken slot + (2 ^ 30 + 65536)
  pub others : TouchesOnly slot before after

-- what stops the reading of one slot: a fault of the shelf at it exactly where its count rose
abbrev pub FaultsAt : Slot → (Slot → ℕ) → (Slot → ℕ) → Stop → Type 0
FaultsAt slot before now (stops.ReadFault other) = (other ≡ slot) × Rose (before slot) (now slot)
FaultsAt slot before now stops.BadWords = ⊥
FaultsAt slot before now (stops.Refused refusal) = now slot ≡ before slot
FaultsAt slot before now (stops.NoSuch name) = ⊥
FaultsAt slot before now stops.OutOfMemory = now slot ≡ before slot

-- a slot's count of faults rises exactly where the answer is its fault
abbrev pub FaultsIn : {A : Type 0} → Slot → (Slot → ℕ) → (Slot → ℕ) → Result A Stop → Type 0
FaultsIn slot before now (Ok _) = now slot ≡ before slot
FaultsIn slot before now (Err stop) = FaultsAt slot before now stop

-- the stop at a slot that is too large
abbrev pub IsTooLarge : Slot → Stop → Type 0
IsTooLarge slot stop =
    stop ≡ stops.Refused (record { slot = slot; row = 0; reason = TooLarge })

-- more than its greatest size is taken of a slot only where that is the stop
abbrev pub IsSized : {A : Type 0} → Slot → ℕ → ℕ → Result A Stop → Type 0
IsSized slot before now result =
    (now ≤ before + 2 ^ 30) ⊎ IsErrAnd result (IsTooLarge slot)

-- what stops a run whose words are good: a fault of the shelf has its cause
abbrev pub HasCause : List Slot → OnShelf → OnShelf → Stop → Type 0
HasCause order before after (stops.ReadFault slot) = IsFaultAt order before after slot
HasCause order before after stops.BadWords = ⊥
HasCause order before after (stops.Refused refusal) = ⊤
HasCause order before after (stops.NoSuch name) = ⊤
HasCause order before after stops.OutOfMemory = ⊤

-- the slots of the order are read, each once, and no other is touched
pub record TakesSlots {A : Type 0} (order : List Slot) (before after : OnShelf)
    (result : Result A Stop) : Type 0 where
  -- to their ends, where there is an answer and the shelf tells its bytes
  pub ends : (slots : Slot → List ℕ) → Tells order before.left slots
      → OnOk result ((slot : Slot) → Contains order slot → after.left slot ≡ Some [])
  -- of a slot no more is taken than one reading may take
  pub once : (slot : Slot) → Contains order slot
      → after.taken slot ≤ before.taken slot + (2 ^ 30 + 65536)
  -- that a slot is too large is told as this and as nothing else
  pub size : (slot : Slot) → Contains order slot
      → IsSized slot (before.taken slot) (after.taken slot) result
  pub others : (slot : Slot) → ¬ Contains order slot → after.left slot ≡ before.left slot
  pub others_taken : (slot : Slot) → ¬ Contains order slot → after.taken slot ≡ before.taken slot
  pub counts : NoneFell before.faults after.faults
  pub cause : IfErr result (HasCause order before after)
  -- the count of a slot's faults rises only where the reading stops at its fault
  pub told : (slot : Slot) → Contains order slot
      → (after.faults slot ≡ before.faults slot)
      ⊎ IsErrAnd result (λ stop. stop ≡ stops.ReadFault slot)
  pub others_faults : (slot : Slot) → ¬ Contains order slot
      → after.faults slot ≡ before.faults slot

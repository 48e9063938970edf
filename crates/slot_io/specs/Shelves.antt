-- What a shelf tells, and what a read of one of its slots leaves of the others.
use Rattle.std.specs.Prelude.{ℕ, List, Option}
use Rattle.admit_core.specs.declared.slot.Slot.{Slot}
use Rattle.slot_io.specs.Bytes.{OthersKept}
use Rattle.slot_io.specs.Faults.{NoneFell}

-- the bytes left in each slot, where a shelf tells them, how many were taken, and how often its
-- reads have failed
pub record OnShelf : Type 0 where
  pub left : Slot → Option (List ℕ)
  pub taken : Slot → ℕ
  pub faults : Slot → ℕ

abbrev pub on_shelf : {S : Type 0} → (S → Slot → Option (List ℕ)) → (S → Slot → ℕ)
    → (S → Slot → ℕ) → S → OnShelf
on_shelf left taken faults shelf =
    record { left = left shelf; taken = taken shelf; faults = faults shelf }

-- nothing changed but of this slot, and no count of faults fell
pub record TouchesOnly (slot : Slot) (before after : OnShelf) : Type 0 where
  pub left : OthersKept slot before.left after.left
  pub taken : OthersKept slot before.taken after.taken
  pub faults : OthersKept slot before.faults after.faults
  pub counts : NoneFell before.faults after.faults

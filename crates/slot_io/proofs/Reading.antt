-- A slot read to its end, or not, read by read.
use Rattle.std.proofs.Common.{◌≡◌, ◌∙◌, ◌+◌, ◌≤◌, inr, ℕ, Result, Ok, Err, IsErrAnd, Vec, arith}
use Rattle.admit_core.specs.declared.slot.Slot.{Slot}
use Rattle.slot_io.specs.Bytes.{TakesAtMost}
use Rattle.slot_io.specs.Faults.{Rose}
use Rattle.slot_io.specs.Reads.{ReadsSlot}
use Rattle.slot_io.specs.Shelves.{OnShelf, TouchesOnly}
use Rattle.slot_io.specs.declared.refusal.SlotRefusal.{SlotRefusal}
use Rattle.slot_io.specs.declared.refusal.SlotRefusal.TheVariants.{ReadFault, TooLarge, OutOfMemory}

-- two reads of one slot touch no other
pub touches_more : (slot : Slot) (a b c : OnShelf) → TouchesOnly slot a b → TouchesOnly slot b c → TouchesOnly slot a c
touches_more slot a b c one two = record {
  left = λ other apart. two.left other apart ∙ one.left other apart;
  taken = λ other apart. two.taken other apart ∙ one.taken other apart;
  faults = λ other apart. two.faults other apart ∙ one.faults other apart;
  counts = λ s. omega (arith, one.counts s, two.counts s);
}

-- want of memory after these bytes
pub lacks_room : {Z : Type 0} (limit : ℕ) (slot : Slot) (before after : OnShelf) (r : Result (Vec ℕ Z) SlotRefusal)
    → IsErrAnd r (λ why. why ≡ OutOfMemory) → TakesAtMost (limit + 65536) (before.left slot) (after.left slot)
    → after.taken slot ≤ before.taken slot + limit → Rose (before.taken slot) (after.taken slot)
    → after.faults slot ≡ before.faults slot → TouchesOnly slot before after → ReadsSlot limit slot before after r
lacks_room limit slot before after (Ok bytes) from part few rose quiet others = absurd from
lacks_room limit slot before after (Err ReadFault) from part few rose quiet others = absurd (cc)
lacks_room limit slot before after (Err TooLarge) from part few rose quiet others = absurd (cc)
lacks_room limit slot before after (Err OutOfMemory) from part few rose quiet others = record {
  whole = tt;
  refused = part;
  over = λ e. absurd (cc);
  not_over = inr few;
  at_most = omega (arith, few);
  memory = λ e. rose;
  fault = quiet;
  others = others;
}

-- What the values of the slots end as, where a `&mut` to one of them is returned.
use Rattle.std.specs.Borrow.{Lends, Fml, RattleType, MutBor}
use Rattle.admit_core.specs.Slots.{with_at}
use Rattle.admit_core.specs.declared.slot.PerSlot.{PerSlot}
use Rattle.admit_core.specs.declared.slot.Slot.{Slot}
use Rattle.admit_core.specs.contracts.slot.PerSlot.{the_row}

-- once the borrow r ends, the slot has the value last written through r
abbrev pub lends_value : (T : RattleType) → MutBor (PerSlot T.Denot) → Slot → MutBor T.Denot → Fml
lends_value T p slot r = Lends (the_row T) T p r (with_at p.now slot)

-- What the shelves in memory tell.
use Rattle.std.specs.Prelude.{ℕ, ◌≤◌, List, Option, Some, vec_capacity, vec_len}
use Rattle.admit_core.specs.Slots.{at}
use Rattle.admit_core.specs.declared.slot.Slot.{Slot}
use Rattle.slot_io.specs.Shelves.{OnShelf}
use Rattle.shelf_io.specs.declared.memory_shelf.MemShelf.{MemShelf}
use Rattle.shelf_io.specs.declared.memory_shelf.PlainShelf.{PlainShelf}

-- the bytes left in a slot, and how many were taken since they were put there
abbrev pub left_of : PlainShelf → Slot → Option (List ℕ)
left_of shelf slot = Some ((at shelf.stocks slot).left)

abbrev pub taken_of : PlainShelf → Slot → ℕ
taken_of shelf slot = (at shelf.stocks slot).taken

-- what it tells as a shelf, which never fails
abbrev pub on_plain : PlainShelf → OnShelf
on_plain shelf = record { left = left_of shelf; taken = taken_of shelf; faults = λ _. 0 }

-- the same of a shelf with failing calls, its counts of faults, the calls that are to fail, and how
-- many calls were made
abbrev pub mem_left : MemShelf → Slot → Option (List ℕ)
mem_left shelf = left_of shelf.plain

abbrev pub mem_taken : MemShelf → Slot → ℕ
mem_taken shelf = taken_of shelf.plain

abbrev pub mem_faults : MemShelf → Slot → ℕ
mem_faults shelf slot = at shelf.faults slot

abbrev pub on_mem : MemShelf → OnShelf
on_mem shelf =
    record { left = mem_left shelf; taken = mem_taken shelf; faults = mem_faults shelf }

abbrev pub mem_failing : MemShelf → List ℕ
mem_failing shelf = shelf.plan.failing.items

abbrev pub mem_calls : MemShelf → ℕ
mem_calls shelf = shelf.plan.calls

-- its list of calls that are to fail is full
abbrev pub mem_plan_full : MemShelf → Type 0
mem_plan_full shelf = vec_capacity shelf.plan.failing ≤ vec_len shelf.plan.failing

use Rattle.std.proofs.Common.{◌≡◌, ◌≤◌, vec_len, ◌-◌}
use Rattle.std.specs.Io.KnownBytes.{Consumes}
use Rattle.slot_io.specs.Faults.{Counted}
use Rattle.slot_io.specs.Shelves.{TouchesOnly, on_shelf}
use Rattle.slot_io.proofs.shelf.read_slot_in.Given as goal

abbrev pub invariant-reads : goal.invariant-reads
invariant-reads g l = (vec_len l.bytes ≤ l.limit)
    × Consumes (g.S.Shelf.left l.fn.shelf l.slot) (g.S.Shelf.left l.shelf l.slot) l.bytes.items
    × Counted (vec_len l.bytes) (g.S.Shelf.taken l.fn.shelf l.slot) (g.S.Shelf.taken l.shelf l.slot)
    × (g.S.Shelf.faults l.shelf l.slot ≡ g.S.Shelf.faults l.fn.shelf l.slot)
    × TouchesOnly l.slot (on_shelf g.S.Shelf.left g.S.Shelf.taken g.S.Shelf.faults l.fn.shelf)
    (on_shelf g.S.Shelf.left g.S.Shelf.taken g.S.Shelf.faults l.shelf)

abbrev pub decreases-reads : goal.decreases-reads
decreases-reads g l = l.limit - vec_len l.bytes

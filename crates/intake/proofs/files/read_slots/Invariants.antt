use Rattle.intake.specs.Shelves.{on_shelf}
use Rattle.intake.proofs.ReadOrder.{AreReadTo}
use Rattle.intake.proofs.files.read_slots.Given as goal

abbrev pub invariant-loop-slot : goal.invariant-loop-slot
invariant-loop-slot g l =
    AreReadTo l.order (on_shelf g.S.Shelf.left g.S.Shelf.taken g.S.Shelf.faults l.fn.shelf)
    (on_shelf g.S.Shelf.left g.S.Shelf.taken g.S.Shelf.faults l.shelf) l.slot-index l.files

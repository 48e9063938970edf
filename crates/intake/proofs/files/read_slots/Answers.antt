use Rattle.std.proofs.Common.{◌≡◌, ◌<◌, arith, get_or, inl, length}
use Rattle.std.proofs.lemmas.List.{get_or_default}
use Rattle.admit_core.specs.declared.slot.Slot.TheVariants.{Groups}
use Rattle.intake.specs.Reading.{no_files}
use Rattle.intake.specs.Shelves.{on_shelf}
use Rattle.intake.specs.Stops.{stop_of}
use Rattle.intake.specs.declared.files.Files.{Files}
use Rattle.intake.proofs.ReadOrder.{all_read, all_taken, fault_there, gives_stop, nothing_read, read_one}
use Rattle.intake.proofs.ReadOrder.{refusal_has_cause, rows_stop, size_stops, taken_till, told_at}
use Rattle.intake.proofs.TakenIn.{quiet_in}
use Rattle.intake.proofs.files.read_slots.Goals as goal

pub loop-slot-init : goal.loop-slot-init
loop-slot-init g c =
    let files : Files = record { tables = c.no_rows.result; chain = c.new.result } in
    let none : files ≡ no_files = cc in
    nothing_read _ _ files none c.no_rows.ensures.ranges

pub loop-slot-preserved : goal.loop-slot-preserved
loop-slot-preserved g c =
    let order = c.args.order.now in
    let place = c.loop-slot.slot-index in
    let within : place < length order = omega arith in
    let slot = get_or order place Groups in
    read_one order c.requires (on_shelf g.S.Shelf.left g.S.Shelf.taken g.S.Shelf.faults c.args.shelf.now)
    (on_shelf g.S.Shelf.left g.S.Shelf.taken g.S.Shelf.faults c.loop-slot.shelf)
    (on_shelf g.S.Shelf.left g.S.Shelf.taken g.S.Shelf.faults c.slot_bytes.new.shelf)
    place slot c.loop-slot.files within (get_or_default order place slot Groups within) c.loop-slot.invariant
    c.in_ok-bytes.ensures.touches
    c.in_ok-bytes.bytes.items c.in_ok-more.more c.in_ok-bytes.ensures.value c.in_ok-bytes.ensures.ends
    c.in_ok-more.ensures.value c.in_ok-more.ensures.ranges c.in_ok-bytes.ensures.fault
    (quiet_in c.in_ok-bytes.ensures.size)

pub returns-in_err-bytes-clause-value : goal.returns-in_err-bytes-clause-value
returns-in_err-bytes-clause-value g c =
    λ slots tells.
    let order = c.args.order.now in
    let place = c.loop-slot.slot-index in
    let within : place < length order = omega arith in
    let slot = get_or order place Groups in
    gives_stop (λ files. files) c.from_residual.result c.in_err-bytes.field-0.0 _ c.from_residual.ensures.1
    (size_stops order c.requires (on_shelf g.S.Shelf.left g.S.Shelf.taken g.S.Shelf.faults c.args.shelf.now)
    (on_shelf g.S.Shelf.left g.S.Shelf.taken g.S.Shelf.faults c.loop-slot.shelf)
    (on_shelf g.S.Shelf.left g.S.Shelf.taken g.S.Shelf.faults c.slot_bytes.new.shelf)
    place slot c.loop-slot.files within (get_or_default order place slot Groups within) c.loop-slot.invariant
    c.in_err-bytes.ensures.touches
    c.in_err-bytes.field-0.0 c.in_err-bytes.ensures.value slots tells)

pub returns-in_err-bytes-clause-slots : goal.returns-in_err-bytes-clause-slots
returns-in_err-bytes-clause-slots g c =
    let order = c.args.order.now in
    let place = c.loop-slot.slot-index in
    let within : place < length order = omega arith in
    let slot = get_or order place Groups in
    let before = on_shelf g.S.Shelf.left g.S.Shelf.taken g.S.Shelf.faults c.args.shelf.now in
    let mid = on_shelf g.S.Shelf.left g.S.Shelf.taken g.S.Shelf.faults c.loop-slot.shelf in
    let after = on_shelf g.S.Shelf.left g.S.Shelf.taken g.S.Shelf.faults c.slot_bytes.new.shelf in
    let is_there = get_or_default order place slot Groups within in
    taken_till order c.requires before mid after place slot c.loop-slot.files within is_there c.loop-slot.invariant
    c.in_err-bytes.ensures.touches
    c.from_residual.result c.in_err-bytes.field-0.0 c.from_residual.ensures.1
    (fault_there order c.requires before mid after place slot c.loop-slot.files within is_there c.loop-slot.invariant
    c.in_err-bytes.ensures.touches c.in_err-bytes.field-0.0 c.in_err-bytes.ensures.fault)
    (told_at order c.requires before mid after place slot c.loop-slot.files within is_there c.loop-slot.invariant
    c.in_err-bytes.ensures.touches c.in_err-bytes.field-0.0 c.in_err-bytes.ensures.fault)
    c.in_err-bytes.ensures.size

pub returns-in_err-more-clause-value : goal.returns-in_err-more-clause-value
returns-in_err-more-clause-value g c =
    λ slots tells.
    let order = c.args.order.now in
    let place = c.loop-slot.slot-index in
    let within : place < length order = omega arith in
    let slot = get_or order place Groups in
    gives_stop (λ files. files) c.from_residual-in_err-more.result
    (stop_of c.in_err-more.field-0.0) _ c.from_residual-in_err-more.ensures.1
    (rows_stop order c.requires (on_shelf g.S.Shelf.left g.S.Shelf.taken g.S.Shelf.faults c.args.shelf.now)
    (on_shelf g.S.Shelf.left g.S.Shelf.taken g.S.Shelf.faults c.loop-slot.shelf)
    (on_shelf g.S.Shelf.left g.S.Shelf.taken g.S.Shelf.faults c.slot_bytes.new.shelf)
    place slot c.loop-slot.files within (get_or_default order place slot Groups within) c.loop-slot.invariant
    c.in_ok-bytes.ensures.touches
    c.in_ok-bytes.bytes.items c.in_err-more.field-0.0 c.in_ok-bytes.ensures.value c.in_err-more.ensures.value slots
    tells)

pub returns-in_err-more-clause-slots : goal.returns-in_err-more-clause-slots
returns-in_err-more-clause-slots g c =
    let order = c.args.order.now in
    let place = c.loop-slot.slot-index in
    let within : place < length order = omega arith in
    let slot = get_or order place Groups in
    taken_till order c.requires (on_shelf g.S.Shelf.left g.S.Shelf.taken g.S.Shelf.faults c.args.shelf.now)
    (on_shelf g.S.Shelf.left g.S.Shelf.taken g.S.Shelf.faults c.loop-slot.shelf)
    (on_shelf g.S.Shelf.left g.S.Shelf.taken g.S.Shelf.faults c.slot_bytes.new.shelf)
    place slot c.loop-slot.files within (get_or_default order place slot Groups within) c.loop-slot.invariant
    c.in_ok-bytes.ensures.touches
    c.from_residual-in_err-more.result (stop_of c.in_err-more.field-0.0) c.from_residual-in_err-more.ensures.1
    (refusal_has_cause _ _ _ c.in_err-more.field-0.0) (inl c.in_ok-bytes.ensures.fault)
    (inl (quiet_in c.in_ok-bytes.ensures.size))

pub returns-clause-value : goal.returns-clause-value
returns-clause-value g c = all_read _ _ _ c.loop-slot.slot-index c.loop-slot.files (omega arith) c.loop-slot.invariant

pub returns-clause-slots : goal.returns-clause-slots
returns-clause-slots g c = all_taken _ _ _ c.loop-slot.slot-index c.loop-slot.files (omega arith) c.loop-slot.invariant

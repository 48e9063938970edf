use Rattle.std.proofs.Common.{List, subst, sym}
use Rattle.admit_core.specs.declared.slot.Slot.{Slot}
use Rattle.intake.specs.Shelves.{Tells}
use Rattle.intake.proofs.TakenIn.{made_gives, read_gives, untouched}
use Rattle.intake.proofs.take.files_of.Goals as goal

pub returns-in-Some-clause-value : goal.returns-in-Some-clause-value
returns-in-Some-clause-value g c = λ slots tells. made_gives c.args.mode c.in-Some.number slots c.made.result
    c.in-Some.ensures.value c.made.ensures.value

pub returns-in-Some-clause-slots : goal.returns-in-Some-clause-slots
returns-in-Some-clause-slots g c = untouched _ _ c.made.result c.in-Some.ensures.reads_none c.made.ensures.kinds

pub returns-in-None-clause-value : goal.returns-in-None-clause-value
returns-in-None-clause-value g c =
    λ slots tells.
    let told = subst (λ (order : List Slot). Tells order (g.S.Shelf.left c.args.shelf.now) slots)
    (sym c.slots_of.ensures.slots) tells in
    read_gives c.args.mode c.slots_of.result.now slots c.read_slots.result c.in-None.ensures.value
    c.slots_of.ensures.slots (c.read_slots.ensures.value slots told)

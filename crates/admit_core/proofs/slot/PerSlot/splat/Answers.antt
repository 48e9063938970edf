use Rattle.admit_core.proofs.slot.PerSlot.splat.Goals as goal

pub returns : goal.returns
returns g c = λ slot. (c.from_fn.ensures slot).1

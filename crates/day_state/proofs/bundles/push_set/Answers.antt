use Rattle.day_state.proofs.Beside.{set_all, set_none}
use Rattle.day_state.proofs.bundles.push_set.Goals as goal

pub loop-place-init : goal.loop-place-init
loop-place-init c = set_none c.args.flags.now c.args.places.now c.args.found.now.items

pub returns : goal.returns
returns c = λ k.
    set_all c.args.flags.now c.args.places.now c.args.found.now.items c.loop-place.found.items c.loop-place.place-index
    c.loop-place-test.false c.loop-place.invariant k

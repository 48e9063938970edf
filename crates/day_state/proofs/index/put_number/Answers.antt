use Rattle.std.proofs.Common.{refl, arith}
use Rattle.day_state.proofs.Runs.{put_none, put_more, put_all}
use Rattle.day_state.proofs.index.put_number.Goals as goal

pub loop-place-init : goal.loop-place-init
loop-place-init c = put_none c.args.places.now c.args.number c.args.numbers.now.items

pub loop-place-preserved : goal.loop-place-preserved
loop-place-preserved c =
    let lt = c.loop-place-test.true in
    put_more c.args.places.now c.loop-place.place-index c.args.number c.args.numbers.now.items
    c.loop-place.numbers.items _ lt
    (c.requires c.loop-place.place-index 0 lt) c.loop-place.invariant refl

pub returns : goal.returns
returns c =
    put_all c.args.places.now c.loop-place.place-index c.args.number c.args.numbers.now.items c.loop-place.numbers.items
    (omega (arith, c.loop-place-test.false)) c.loop-place.invariant

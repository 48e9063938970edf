use Rattle.std.proofs.Common.{arith}
use Rattle.day_state.proofs.TakingOver.{taken_none, taken_more, taken_all}
use Rattle.day_state.proofs.counted_marks.CountedMarks.take_over.Goals as goal

pub loop-place-init : goal.loop-place-init
loop-place-init c = taken_none c.args.places.now c.args.other.now c.args.self.now

pub loop-place-preserved : goal.loop-place-preserved
loop-place-preserved c =
    let lt = c.loop-place-test.true in
    rw c.set_other.ensures.state (taken_more c.args.places.now c.loop-place.place-index c.args.other.now c.args.self.now
    c.loop-place.self c.mark.result lt (c.requires.places c.loop-place.place-index 0 lt) c.loop-place.invariant
    c.mark.ensures)

pub returns : goal.returns
returns c = taken_all c.args.places.now c.loop-place.place-index c.args.other.now c.args.self.now c.loop-place.self
    (omega (arith, c.loop-place-test.false)) c.loop-place.invariant

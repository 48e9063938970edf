use Rattle.std.proofs.Common.{arith, refl}
use Rattle.linked_demand.proofs.Putting.{put_none, put_more, put_all}
use Rattle.linked_demand.proofs.notes.put_at.Goals as goal

pub loop-wish-init : goal.loop-wish-init
loop-wish-init c = put_none c.args.claim.now c.args.number c.args.numbers.now.items

pub loop-wish-preserved : goal.loop-wish-preserved
loop-wish-preserved c =
    put_more c.args.claim.now c.loop-wish.wish-index c.args.number c.args.numbers.now.items
    c.loop-wish.numbers.items _ c.loop-wish-test.true (c.requires c.loop-wish.wish-index 0 c.loop-wish-test.true)
    c.loop-wish.invariant refl

pub returns : goal.returns
returns c =
    put_all c.args.claim.now c.loop-wish.wish-index c.args.number c.args.numbers.now.items
    c.loop-wish.numbers.items (omega arith) c.loop-wish.invariant

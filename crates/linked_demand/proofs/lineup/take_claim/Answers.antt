use Rattle.std.proofs.Common.{length, ◌<◌, arith}
use Rattle.linked_demand.proofs.LineWalk.{front_more, taken_more}
use Rattle.linked_demand.proofs.lineup.take_claim.Goals as goal

pub loop-wishes-preserved : goal.loop-wishes-preserved
loop-wishes-preserved c =
    let lt : length c.loop-wishes.wishes.items < length c.args.called.now = omega (
      arith,
      c.loop-wishes-test.true,
      c.len-in-loop-wishes.ensures,
    ) in
    record {
      front = front_more c.args.called.now c.loop-wishes.wishes.items c.push-in-loop-wishes.new.self.items
          c.len-in-loop-wishes-3.result c.loop-wishes.invariant.front lt
          (omega (arith, c.len-in-loop-wishes-3.ensures))
          c.in_ok-push-2.ensures.items;
      run = taken_more c.args.called.now (length c.args.wishes.now.items) c.loop-wishes.wishes.items
          c.push-in-loop-wishes.new.self.items c.len.result c.len-in-loop-wishes-2.result _ c.loop-wishes.invariant.run
          lt (omega (arith, c.len.ensures)) (omega (arith, c.len-in-loop-wishes-2.ensures)) c.in_ok-push-2.ensures.items
          c.if-called-len.true;
    }

use Rattle.std.proofs.Common.{arith}
use Rattle.markets.proofs.Listing.{put_none, put_more, put_whole}
use Rattle.markets.proofs.listers.put_in_rows.Goals as goal

pub loop-number-init : goal.loop-number-init
loop-number-init c = put_none (λ p. c.args.item) c.args.rows.now.items

pub returns-clause-put : goal.returns-clause-put
returns-clause-put c = put_whole (λ p. c.args.item) c.args.list.now c.loop-number.number-index c.args.rows.now.items
    c.loop-number.rows.items
    (omega (arith, c.loop-number-test.false)) c.loop-number.invariant

pub loop-number-preserved : goal.loop-number-preserved
loop-number-preserved c =
    put_more (λ p. c.args.item) c.args.list.now c.loop-number.number-index c.args.rows.now.items
    c.loop-number.rows.items
    c.index_mut.result.now c.push.new.self
    c.requires c.loop-number-test.true c.index_mut.ensures.value c.in_ok-push.ensures.items c.loop-number.invariant

use Rattle.std.proofs.Common.{length, false, arith}
use Rattle.std.specs.Prelude.{replicate}
use Rattle.demand.proofs.Visiting.{below_none, below_more, below_all}
use Rattle.demand.proofs.walk.proposed_flags.Goals as goal

pub loop-programme-init : goal.loop-programme-init
loop-programme-init c =
    rw c.in_ok-flags.ensures.flags
    (below_none c.args.state.now c.args.orders.now.orders c.args.bars.now
    (replicate (length c.args.state.now.dossier.wishes) false))

pub loop-programme-preserved : goal.loop-programme-preserved
loop-programme-preserved c =
    below_more c.args.state.now c.args.orders.now.orders c.args.bars.now c.loop-programme.programme
    (replicate (length c.args.state.now.dossier.wishes) false) c.loop-programme.flags.items
    c.flag_proposed.new.flags.items
    c.loop-programme.invariant c.flag_proposed.ensures

pub returns : goal.returns
returns c =
    let all = below_all c.args.state.now c.args.orders.now.orders c.args.bars.now c.loop-programme.programme
    c.loop-programme.flags.items
    (rw c.marks.ensures.marks at c.marks.ensures.one_each)
    (λ k lt. omega (arith, c.programme_count-programmes.ensures.each k lt))
    c.loop-programme.invariant in
    record { flags = all.0; few = omega (arith, all.1, c.in_ok-flags.ensures.few) }

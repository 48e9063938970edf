use Rattle.std.proofs.Common.{◌≡◌, arith, replicate, rules, None}
use Rattle.envy.proofs.Knowing.{last_all, last_none}
use Rattle.envy.proofs.known.last_live.Goals as goal

pub loop-place-init : goal.loop-place-init
loop-place-init c =
    let none : c.in_ok-lasts.lasts.items ≡ replicate c.programme_count.result None = search rules in
    last_none c.args.state.now c.args.roster.now.orders c.in_ok-lasts.lasts.items c.programme_count.result
    c.programme_count.ensures.count none

pub returns : goal.returns
returns c =
    last_all c.args.state.now c.args.roster.now.orders c.loop-place.place c.loop-place.lasts.items
    (rw c.marks.ensures.marks at c.marks.ensures.one_each)
    (omega (arith, c.loop-place-test.false, c.wish_count-place-end.ensures)) c.loop-place.invariant

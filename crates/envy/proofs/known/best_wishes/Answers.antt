use Rattle.std.proofs.Common.{◌≡◌, arith, replicate, rules, None}
use Rattle.envy.proofs.Knowing.{best_all, best_none}
use Rattle.envy.proofs.known.best_wishes.Goals as goal

pub loop-place-init : goal.loop-place-init
loop-place-init c =
    let none : c.in_ok-best.best.items ≡ replicate c.wish_count-count.result None = search rules in
    best_none c.args.state.now c.in_ok-best.best.items c.wish_count-count.result c.wish_count-count.ensures none

pub returns : goal.returns
returns c =
    best_all c.args.state.now c.loop-place.place c.loop-place.best.items
    (rw c.marks.ensures.marks at c.marks.ensures.one_each)
    (omega (arith, c.loop-place-test.false, c.wish_count-count.ensures)) c.loop-place.invariant

use Rattle.std.proofs.Common.{ℕ, ◌<◌, ◌∙◌, List, [], map, length, ap, arith, subst}
use Rattle.std.proofs.lemmas.List.{take_all}
use Rattle.markets.proofs.OneMore.{mapped_more}
use Rattle.markets.proofs.round.ceilings.Goals as goal

pub order-requires : goal.order-requires
order-requires c =
    let P = λ (n : ℕ). c.loop-programme.programme < n in
    subst P c.programmes-programme-end.ensures c.loop-programme-test.true

pub overflow_cast-order : goal.overflow_cast-order
overflow_cast-order c = omega (arith, c.order.ensures.short)

pub loop-programme-preserved : goal.loop-programme-preserved
loop-programme-preserved c =
    let orders : List (List ℕ) = c.args.market.now.orders in
    let lt : c.loop-programme.programme < length orders =
    omega (arith, c.programmes-programme-end.ensures, c.loop-programme-test.true) in
    mapped_more length orders c.loop-programme.programme [] c.loop-programme.ceilings.items c.push.new.self.items
    (length c.order.result.now) lt c.in_ok-push.ensures.items c.loop-programme.invariant
    (ap length c.order.ensures.order)

pub returns : goal.returns
returns c =
    let orders : List (List ℕ) = c.args.market.now.orders in
    c.loop-programme.invariant
    ∙ ap (map length)
    (take_all c.loop-programme.programme orders
    (omega (arith, c.programmes-programme-end.ensures, c.loop-programme-test.false)))

use Rattle.std.proofs.Common.{ℕ, ◌≡◌, ◌<◌, ◌∙◌, ap, arith, length, subst}
use Rattle.markets.specs.Markets.{is_list_below}
use Rattle.markets.specs.Ranked.{AreRanked}
use Rattle.markets.proofs.Ranking.{orders_are_lists, ranks_more}
use Rattle.markets.proofs.ranked.ranks_in.Goals as goal

pub put_ranks-requires-clause-order : goal.put_ranks-requires-clause-order
put_ranks-requires-clause-order c =
    let m = c.args.market.now in
    let p : ℕ = c.loop-programme.programme in
    let lt : p < length m.orders = omega (arith, c.loop-programme-test.true, c.programmes-programme-end.ensures) in
    ap (λ n. is_list_below n c.order.result.now) c.loop-programme.invariant.one_each
    ∙ ap (is_list_below (length m.lists)) c.order.ensures.order
    ∙ orders_are_lists m c.stands.ensures.market p lt

pub loop-programme-preserved : goal.loop-programme-preserved
loop-programme-preserved c =
    ranks_more c.args.market.now c.loop-programme.programme c.order.result.now c.loop-programme.rows.items
    c.put_ranks.new.rows.items c.order.ensures.order
    c.loop-programme.invariant c.in_ok-put_ranks.ensures

pub order-requires : goal.order-requires
order-requires c =
    let P = λ (n : ℕ). c.loop-programme.programme < n in
    subst P c.programmes-programme-end.ensures c.loop-programme-test.true

pub put_ranks-requires-clause-short : goal.put_ranks-requires-clause-short
put_ranks-requires-clause-short c = c.order.ensures.short

pub returns : goal.returns
returns c =
    let n : ℕ = length c.args.market.now.orders in
    let all : c.loop-programme.programme ≡ n =
    omega (
      arith,
      c.loop-programme-test.false,
      c.loop-programme.auto.programme-end,
      c.programmes-programme-end.ensures,
    ) in
    let P = λ (k : ℕ). AreRanked c.args.market.now k c.loop-programme.rows.items in
    subst P all c.loop-programme.invariant

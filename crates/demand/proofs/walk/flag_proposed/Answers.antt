use Rattle.std.proofs.Common.{◌≡◌, ◌||◌, refl, ◌∙◌, ap, nat_lt, get_or, cond, ◌+◌}
use Rattle.admit_core.specs.DossierRows.{limit_of}
use Rattle.admit_core.specs.Proposals.{wants_seat}
use Rattle.demand.proofs.Visiting.{walked_none, walked_more, walked_all, counted_one, counted_none}
use Rattle.demand.proofs.walk.flag_proposed.Goals as goal
use Rattle.demand.proofs.walk.flag_proposed.Goals.{then-visit, else-visit}

pub loop-before-init : goal.loop-before-init
loop-before-init c = walked_none c.args.state.now c.args.orders.now.orders c.args.bars.now c.args.programme
    c.order_of-order.result.now c.args.flags.now.items

pub loop-before-preserved : goal.loop-before-preserved
loop-before-preserved c =
    let s = c.args.state.now in
    let bars = c.args.bars.now in
    let p = c.args.programme in
    let order = c.order_of-order.result.now in
    let i = c.loop-before.before in
    let ahead = c.loop-before.ahead in
    let x = get_or order i 0 in
    let wants = wants_seat s bars p x in
    let next : c.if-visit.ahead ≡ ahead + cond wants 1 0 = elim c.if-visit.branch [
      | then-visit w ↦ counted_one wants c.visit.result ahead c.if-visit.ahead c.visit.ensures.wants w.if-visit.true
          w.ahead-is
      | else-visit w ↦ counted_none wants c.visit.result ahead c.if-visit.ahead c.visit.ensures.wants w.if-visit.false
          w.ahead-is
    ] in
    walked_more s c.args.orders.now.orders bars p order c.order_of-order.ensures i c.loop-before-test.true x ahead
    c.if-visit.ahead c.is_called-is_called.result
    c.args.flags.now.items c.loop-before.flags.items c.visit.new.flags.items refl c.loop-before.invariant
    (c.is_called-is_called.ensures
    ∙ ap (λ n. nat_lt i n || nat_lt ahead c.seats_left-left.result) c.limit_of-limit.ensures
    ∙ ap (λ n. nat_lt i (limit_of s.dossier p) || nat_lt ahead n) c.seats_left-left.ensures)
    c.visit.ensures.flags next

pub returns : goal.returns
returns c =
    walked_all c.args.state.now c.args.orders.now.orders c.args.bars.now c.args.programme c.order_of-order.result.now
    c.loop-before.before c.loop-before.ahead
    c.args.flags.now.items c.loop-before.flags.items c.order_of-order.ensures c.loop-before-test.false c.requires.flags
    c.requires.orders c.loop-before.invariant

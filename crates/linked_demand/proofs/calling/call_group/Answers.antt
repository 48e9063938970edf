use Rattle.std.proofs.Common.{ℕ, ◌≤◌, List, length, take, get_or, nat_eq, ◌+◌, refl, sym, ◌∙◌, ap, arith, subst}
use Rattle.std.specs.Prelude.{◌^◌, slice_range}
use Rattle.std.specs.List.{flat_map, IsDistinct}
use Rattle.admit_core.specs.declared.ranking.CallOrder.{CallOrder}
use Rattle.linked_demand.specs.Called.{group_claim}
use Rattle.linked_demand.specs.CalledWishes.{called_wish_at}
use Rattle.linked_demand.specs.Claims.{wishes_of}
use Rattle.linked_demand.specs.Keyed.{ArePutIn}
use Rattle.linked_demand.specs.Seats.{applies_at}
use Rattle.linked_demand.proofs.CalledRows.{before_here, called_more, order_read}
use Rattle.linked_demand.proofs.ClaimSpans.{candidates_rise, claim_there}
use Rattle.linked_demand.proofs.Dealing.{puts_on}
use Rattle.linked_demand.proofs.Seating.{few_apart}
use Rattle.std.proofs.lemmas.List.{take_all}
use Rattle.linked_demand.proofs.calling.call_group.Goals as goal

pub span_of-span-requires-clause-rises : goal.span_of-span-requires-clause-rises
span_of-span-requires-clause-rises c = candidates_rise c.requires.wishes

pub claim_of-claim-requires : goal.claim_of-claim-requires
claim_of-claim-requires c =
    let span = c.span_of-span.result in
    (claim_there c.requires.wishes (get_or c.as_slice-order.result.now c.loop-before.before 0) span
    c.span_of-span.ensures (slice_range c.args.wishes.now span.from span.to) refl).within

pub deal-requires-clause-within : goal.deal-requires-clause-within
deal-requires-clause-within c =
    (claim_there c.requires.wishes (get_or c.as_slice-order.result.now c.loop-before.before 0)
    c.span_of-span.result c.span_of-span.ensures c.claim_of-claim.result.now c.claim_of-claim.ensures).places

pub deal-requires-clause-programmes : goal.deal-requires-clause-programmes
deal-requires-clause-programmes c =
    (claim_there c.requires.wishes (get_or c.as_slice-order.result.now c.loop-before.before 0)
    c.span_of-span.result c.span_of-span.ensures c.claim_of-claim.result.now c.claim_of-claim.ensures).programmes

pub overflow_cast-before : goal.overflow_cast-before
overflow_cast-before c =
    let orders = c.args.orders.now.orders in
    let order = c.as_slice-order.result.now in
    let order_is = order_read orders c.as_slice.result.now c.args.group c.index-as_slice-group.result order
    c.as_slice.ensures
    c.requires.group c.index-as_slice-group.is
    (c.as_slice-order.ensures ∙ ap (λ (o : CallOrder). o.list) (sym c.index-as_slice-group.is)) in
    let P = λ (o : List ℕ). IsDistinct nat_eq o in
    let apart : IsDistinct nat_eq order = subst P (sym order_is) c.requires.once in
    let many : length order ≤ 2 ^ 32 = few_apart order (2 ^ 32) apart (λ k. omega (arith, c.type_inv.order k)) in
    omega (arith, many, c.loop-before-test.true)

pub deal-requires-clause-before : goal.deal-requires-clause-before
deal-requires-clause-before c =
    let orders = c.args.orders.now.orders in
    let order = c.as_slice-order.result.now in
    let order_is = order_read orders c.as_slice.result.now c.args.group c.index-as_slice-group.result order
    c.as_slice.ensures
    c.requires.group c.index-as_slice-group.is
    (c.as_slice-order.ensures ∙ ap (λ (o : CallOrder). o.list) (sym c.index-as_slice-group.is)) in
    let claimed = claim_there c.requires.wishes (get_or order c.loop-before.before 0)
    c.span_of-span.result c.span_of-span.ensures c.claim_of-claim.result.now c.claim_of-claim.ensures in
    before_here c.args.state.now.dossier orders c.args.group c.loop-before.before c.loop-before.before order
    (wishes_of c.claim_of-claim.result.now) order_is c.requires.once c.loop-before-test.true refl claimed.is

pub loop-before-preserved : goal.loop-before-preserved
loop-before-preserved c =
    let d = c.args.state.now.dossier in
    let orders = c.args.orders.now.orders in
    let order = c.as_slice-order.result.now in
    let i = c.loop-before.before in
    let claim = wishes_of c.claim_of-claim.result.now in
    let claimed = claim_there c.requires.wishes (get_or order i 0)
    c.span_of-span.result c.span_of-span.ensures c.claim_of-claim.result.now c.claim_of-claim.ensures in
    let f = group_claim d c.args.group in
    puts_on (called_wish_at d orders) (applies_at d) (flat_map f (take i order)) claim (flat_map f (take (i + 1) order))
    c.args.called.now.items c.loop-before.called.items c.deal.new.called.items
    (called_more f order i claim c.loop-before-test.true claimed.is) c.loop-before.invariant c.in_ok-deal.ensures

pub returns : goal.returns
returns c =
    let d = c.args.state.now.dossier in
    let orders = c.args.orders.now.orders in
    let order = c.as_slice-order.result.now in
    let order_is = order_read orders c.as_slice.result.now c.args.group c.index-as_slice-group.result order
    c.as_slice.ensures
    c.requires.group c.index-as_slice-group.is
    (c.as_slice-order.ensures ∙ ap (λ (o : CallOrder). o.list) (sym c.index-as_slice-group.is)) in
    let all = take_all c.loop-before.before order c.loop-before-test.false ∙ order_is in
    let P = λ (o : List ℕ). ArePutIn (called_wish_at d orders) (applies_at d) (flat_map (group_claim d c.args.group) o)
    c.args.called.now.items c.loop-before.called.items in
    subst P all c.loop-before.invariant

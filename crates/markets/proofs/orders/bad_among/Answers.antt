use Rattle.std.proofs.Common.{ℕ, [], sym, length, arith}
use Rattle.markets.specs.Markets.{MarketRows}
use Rattle.markets.proofs.Ordering.{orders_start, orders_more, orders_found, orders_none, row_read, told_at}
use Rattle.markets.proofs.Ordering.{row_within}
use Rattle.markets.proofs.orders.bad_among.Goals as goal

pub has_all_of-requires-clause-within : goal.has_all_of-requires-clause-within
has_all_of-requires-clause-within c =
    let m : MarketRows = record { lists = c.args.lists.now; orders = c.args.orders.now; seats = [] } in
    let row = row_read m c.loop-order.order-index c.loop-order.stamp c.args.rows.now c.index-rows-stamp.result
    c.as_slice-listers.result.now
    c.loop-order.invariant.stamp_is c.loop-order-test.true c.requires.listers c.index-rows-stamp.is
    c.as_slice-listers.ensures.value in
    row_within m (length c.loop-order.stamps) c.loop-order.order-index c.as_slice-listers.result.now row
    c.loop-order.invariant.as_many

pub returns-then-not-has_all_of : goal.returns-then-not-has_all_of
returns-then-not-has_all_of c =
    let m : MarketRows = record { lists = c.args.lists.now; orders = c.args.orders.now; seats = [] } in
    let k : ℕ = c.loop-order.order-index in
    let told = told_at m k c.loop-order.stamp c.args.rows.now c.index-rows-stamp.result c.order-item.result
    c.as_slice-listers.result.now c.as_slice.result.now c.loop-order.stamps c.has_all_of.result c.loop-order-test.true
    c.loop-order.invariant c.requires.listers c.index-rows-stamp.is c.as_slice-listers.ensures.value c.order-item.is
    c.as_slice.ensures c.has_all_of.ensures.all in
    sym (orders_found m k c.loop-order.stamp c.loop-order.stamps c.has_all_of.result c.loop-order-test.true
    c.loop-order.invariant told c.if-not-has_all_of.true)

pub loop-order-preserved : goal.loop-order-preserved
loop-order-preserved c =
    let m : MarketRows = record { lists = c.args.lists.now; orders = c.args.orders.now; seats = [] } in
    let k : ℕ = c.loop-order.order-index in
    let told = told_at m k c.loop-order.stamp c.args.rows.now c.index-rows-stamp.result c.order-item.result
    c.as_slice-listers.result.now c.as_slice.result.now c.loop-order.stamps c.has_all_of.result c.loop-order-test.true
    c.loop-order.invariant c.requires.listers c.index-rows-stamp.is c.as_slice-listers.ensures.value c.order-item.is
    c.as_slice.ensures c.has_all_of.ensures.all in
    orders_more m k c.loop-order.stamp c.loop-order.stamps c.has_all_of.new.stamps c.has_all_of.result
    c.loop-order-test.true c.loop-order.invariant c.has_all_of.ensures.as_many c.has_all_of.ensures.up_to told
    c.if-not-has_all_of.false

pub returns : goal.returns
returns c =
    let m : MarketRows = record { lists = c.args.lists.now; orders = c.args.orders.now; seats = [] } in
    sym (orders_none m c.loop-order.order-index c.loop-order.stamp c.loop-order.stamps
    (omega (arith, c.loop-order-test.false))
    c.loop-order.invariant)

pub overflow_add-stamp : goal.overflow_add-stamp
overflow_add-stamp c = omega (arith, c.loop-order.invariant.stamp_is, c.loop-order-test.true, c.requires.programmes)

pub bounds-rows-stamp : goal.bounds-rows-stamp
bounds-rows-stamp c =
    omega (arith, c.loop-order.invariant.stamp_is, c.loop-order-test.true, c.requires.listers.one_each)

pub loop-order-init : goal.loop-order-init
loop-order-init c =
    orders_start (record { lists = c.args.lists.now; orders = c.args.orders.now; seats = [] })
    c.args.stamps.now c.requires.fresh

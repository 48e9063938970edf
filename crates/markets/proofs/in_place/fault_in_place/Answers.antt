use Rattle.std.proofs.Common.{◌≡◌, ◌∙◌, refl, sym, ap, arith, length, Some, None}
use Rattle.markets.specs.Markets.{MarketRows, first_bad_list, first_bad_order}
use Rattle.markets.proofs.Meeting.{bad_as_read}
use Rattle.markets.proofs.Ordering.{bad_list_is, lists_ready, market_stands}
use Rattle.markets.proofs.in_place.fault_in_place.Goals as goal

pub meet_all-requires-clause-lists : goal.meet_all-requires-clause-lists
meet_all-requires-clause-lists c =
    let sorted = ap length c.as_slice.ensures.value in
    lists_ready (length c.fill.new.self) c.args.lists.now c.args.lists.now c.as_slice.result.now
    (omega (arith, sorted, c.in_order-orders.ensures.as_many, c.requires.seats)) refl
    (sym c.bad_among.ensures ∙ c.in_default.is)

pub returns-in-Some-first_unmet : goal.returns-in-Some-first_unmet
returns-in-Some-first_unmet c =
    let m : MarketRows =
    record { lists = c.args.lists.now; orders = c.args.orders.items; seats = c.args.seats.items } in
    let no_list : first_bad_list m ≡ None =
    bad_list_is None (length c.fill.new.self) m.lists m.lists m.orders m.seats
    (omega (arith, c.requires.seats)) refl (sym c.bad_among.ensures ∙ c.in_default.is) in
    let order : first_bad_order m ≡ Some c.in-Some-first_unmet.programme =
    bad_as_read (Some c.in-Some-first_unmet.programme) m.lists m.orders
    c.in_order-orders.result.items c.as_slice.result.now c.as_slice-2.result.now m.seats c.meet_all.new.notes
    c.meet_all.new.notes c.in_order-orders.ensures c.as_slice.ensures.value c.as_slice-2.ensures.value
    refl c.meet_all.ensures (sym c.first_unmet.ensures ∙ c.in-Some-first_unmet.is) in
    (c.requires.seats, no_list, order)

pub returns : goal.returns
returns c =
    let m : MarketRows =
    record { lists = c.args.lists.now; orders = c.args.orders.items; seats = c.args.seats.items } in
    let no_list : first_bad_list m ≡ None =
    bad_list_is None (length c.fill.new.self) m.lists m.lists m.orders m.seats
    (omega (arith, c.requires.seats)) refl (sym c.bad_among.ensures ∙ c.in_default.is) in
    let no_order : first_bad_order m ≡ None =
    bad_as_read None m.lists m.orders
    c.in_order-orders.result.items c.as_slice.result.now c.as_slice-2.result.now m.seats c.meet_all.new.notes
    c.meet_all.new.notes c.in_order-orders.ensures c.as_slice.ensures.value c.as_slice-2.ensures.value
    refl c.meet_all.ensures (sym c.first_unmet.ensures ∙ c.in-None.is) in
    (market_stands m c.requires.seats no_list no_order, c.requires.rows)

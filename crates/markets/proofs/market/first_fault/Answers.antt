use Rattle.std.proofs.Common.{◌∙◌, sym, arith, length}
use Rattle.markets.proofs.Ordering.{lists_stand, market_stands}
use Rattle.markets.proofs.market.first_fault.Goals as goal

pub first_bad_order-requires-clause-lists : goal.first_bad_order-requires-clause-lists
first_bad_order-requires-clause-lists c =
    lists_stand (length c.args.orders.now) c.args.lists.now (sym c.in_ok-candidate.ensures.bad ∙ c.in_default.is)

pub returns-clause-fault : goal.returns-clause-fault
returns-clause-fault c =
    market_stands (record { lists = c.args.lists.now; orders = c.args.orders.now; seats = c.args.seats.now })
    (omega (arith, c.if-orders-seats.false)) (sym c.in_ok-candidate.ensures.bad ∙ c.in_default.is)
    (sym c.in_ok-programme.ensures.bad ∙ c.in_default-2.is)

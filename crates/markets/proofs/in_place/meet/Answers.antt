use Rattle.std.proofs.Common.{ℕ, List, ◌<◌, arith, get_or, length}
use Rattle.linked_demand.proofs.CalledRows.{among_itself}
use Rattle.markets.proofs.BelowCount.{list_below}
use Rattle.markets.proofs.Meeting.{meets_none, meets_more, meets_whole, note_was}
use Rattle.markets.proofs.Reading.{list_read}
use Rattle.markets.proofs.in_place.meet.Goals as goal

pub loop-number-init : goal.loop-number-init
loop-number-init c = meets_none c.args.orders.now c.args.candidate c.args.notes.now

pub met_more-requires : goal.met_more-requires
met_more-requires c =
    let was = note_was c.args.orders.now c.args.candidate c.args.list.now c.loop-number.number-index c.args.notes.now
    c.loop-number.notes c.requires.list c.loop-number-test.true c.loop-number.invariant in
    omega (arith, was, c.requires.few (get_or c.args.list.now c.loop-number.number-index 0))

pub loop-number-preserved : goal.loop-number-preserved
loop-number-preserved c =
    let list : List ℕ = c.args.list.now in
    let k : ℕ = c.loop-number.number-index in
    let g : ℕ = get_or list k 0 in
    let below : g < length c.args.notes.now =
    list_below (length c.args.notes.now) list g c.requires.list (among_itself list k c.loop-number-test.true) in
    let read = list_read c.args.orders.now g c.index-orders-place.result c.as_slice.result.now
    (omega (arith, below, c.requires.as_many)) c.index-orders-place.is c.as_slice.ensures in
    meets_more c.args.orders.now c.args.candidate list k c.args.notes.now c.loop-number.notes c.as_slice.result.now
    c.met_more.result c.requires.list c.loop-number-test.true read c.met_more.ensures c.loop-number.invariant

pub returns : goal.returns
returns c =
    meets_whole c.args.orders.now c.args.candidate c.args.list.now c.loop-number.number-index c.args.notes.now
    c.loop-number.notes (omega (arith, c.loop-number-test.false)) c.loop-number.invariant

use Rattle.std.proofs.Common.{ℕ, List, ◌≡◌, ◌<◌, ◌≤◌, arith, length, get_or, sym, subst, take}
use Rattle.std.proofs.lemmas.List.{take_all}
use Rattle.markets.proofs.Stamping.{AreStamped, stamped_none, stamped_more, out_of_range, stands_twice}
use Rattle.markets.proofs.stamps.stamp_list.Goals as goal

pub loop-number-init : goal.loop-number-init
loop-number-init c = stamped_none c.args.stamp c.args.stamps.now c.requires

pub loop-number-preserved : goal.loop-number-preserved
loop-number-preserved c =
    let below : get_or c.args.list.now c.loop-number.number-index 0 < length c.args.stamps.now = omega
    (arith, c.if-place-stamps.false, c.loop-number.auto.stamps) in
    stamped_more (length c.args.stamps.now) c.args.stamp c.args.list.now c.loop-number.stamps c.loop-number.number-index
    c.loop-number-test.true below
    c.if-stamps-place.false c.loop-number.invariant

pub returns-then-place-stamps-clause-listed : goal.returns-then-place-stamps-clause-listed
returns-then-place-stamps-clause-listed c =
    let past : length c.args.stamps.now ≤ get_or c.args.list.now c.loop-number.number-index 0 = omega
    (arith, c.if-place-stamps.true, c.loop-number.auto.stamps) in
    sym (out_of_range (length c.args.stamps.now) c.args.list.now c.loop-number.number-index c.loop-number-test.true
    past)

pub returns-then-stamps-place-clause-listed : goal.returns-then-stamps-place-clause-listed
returns-then-stamps-place-clause-listed c =
    let below : get_or c.args.list.now c.loop-number.number-index 0 < length c.args.stamps.now = omega
    (arith, c.if-place-stamps.false, c.loop-number.auto.stamps) in
    sym (stands_twice (length c.args.stamps.now) c.args.stamp c.args.list.now c.loop-number.stamps
    c.loop-number.number-index
    c.loop-number-test.true below
    c.if-stamps-place.true c.loop-number.invariant)

pub returns : goal.returns
returns c =
    let whole : take c.loop-number.number-index c.args.list.now ≡ c.args.list.now =
    take_all c.loop-number.number-index c.args.list.now
    (omega (arith, c.loop-number-test.false)) in
    let P : List ℕ → Type 0 = λ xs. AreStamped (length c.args.stamps.now) c.args.stamp xs c.loop-number.stamps in
    let so = subst P whole c.loop-number.invariant in
    record { listed = sym so.is_list; as_many = so.as_many; up_to = so.up_to; bear = so.bear }

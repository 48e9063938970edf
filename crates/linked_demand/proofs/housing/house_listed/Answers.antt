use Rattle.std.proofs.Common.{drop, ◌+◌}
use Rattle.admit_core.specs.Lists.{is_among}
use Rattle.linked_demand.specs.Lent.{left_of}
use Rattle.linked_demand.proofs.HousedMarks.{first_gone, none_left, walk_start, walk_step, walk_end}
use Rattle.linked_demand.proofs.housing.house_listed.Goals as goal

pub loop-wish-init : goal.loop-wish-init
loop-wish-init c =
    walk_start c.args.links.now (left_of c.args.links.now.state c.args.beds.now) (λ k. is_among k c.args.wishes.now)
    (record { overfilled = c.args.overfilled.now; housed = c.args.housed.now.items })

pub loop-wish-preserved : goal.loop-wish-preserved
loop-wish-preserved c =
    let i = c.loop-wish.wish-index in
    let wishes = c.args.wishes.now in
    walk_step c.args.links.now (left_of c.args.links.now.state c.args.beds.now) (λ k. is_among k wishes)
    (λ k. is_among k (drop i wishes))
    (record { overfilled = c.args.overfilled.now; housed = c.args.housed.now.items })
    (record { overfilled = c.loop-wish.overfilled; housed = c.loop-wish.housed.items }) c.loop-wish.invariant
    _ (λ k. is_among k (drop (i + 1) wishes)) (first_gone wishes i 0 c.loop-wish-test.true)
    (record { overfilled = c.house_wish.new.overfilled; housed = c.house_wish.new.housed.items })
    c.house_wish.ensures.as_long c.house_wish.ensures.as_many c.house_wish.ensures.all

pub returns : goal.returns
returns c =
    walk_end c.args.links.now (left_of c.args.links.now.state c.args.beds.now) (λ k. is_among k c.args.wishes.now)
    (λ k. is_among k (drop c.loop-wish.wish-index c.args.wishes.now))
    (record { overfilled = c.args.overfilled.now; housed = c.args.housed.now.items })
    (record { overfilled = c.loop-wish.overfilled; housed = c.loop-wish.housed.items }) c.loop-wish.invariant
    (none_left c.args.wishes.now c.loop-wish.wish-index c.loop-wish-test.false)

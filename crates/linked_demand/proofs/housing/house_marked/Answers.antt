use Rattle.std.proofs.Common.{Bool, List, false, get_or, length, replicate, ap, refl, ◌∙◌}
use Rattle.std.proofs.lemmas.List.{length-set}
use Rattle.linked_demand.specs.Lent.{left_of}
use Rattle.linked_demand.proofs.HousedMarks.{all_taken, taken_away, walk_start, walk_step, walk_end}
use Rattle.linked_demand.proofs.housing.house_marked.Goals as goal

pub loop-wish-init : goal.loop-wish-init
loop-wish-init c = (
  refl,
  walk_start c.args.links.now (left_of c.args.links.now.state c.args.beds.now) (λ k. get_or c.args.marked.now k false)
      (record { overfilled = c.args.overfilled.now; housed = c.args.housed.now.items }),
)

pub loop-wish-preserved : goal.loop-wish-preserved
loop-wish-preserved c = (
  ap (λ (bs : List Bool). length bs) c.in-Some.ensures.cleared ∙ length-set c.loop-wish.marked c.in-Some.wish false
      ∙ c.loop-wish.invariant.0,
  walk_step c.args.links.now (left_of c.args.links.now.state c.args.beds.now)
      (λ k. get_or c.args.marked.now k false) (λ k. get_or c.loop-wish.marked k false)
      (record { overfilled = c.args.overfilled.now; housed = c.args.housed.now.items })
      (record { overfilled = c.loop-wish.overfilled; housed = c.loop-wish.housed.items }) c.loop-wish.invariant.1
      c.in-Some.wish (λ k. get_or c.take.new.self k false)
      (taken_away c.loop-wish.marked c.take.new.self c.in-Some.wish c.in-Some.ensures.marked c.in-Some.ensures.cleared)
      (record { overfilled = c.house_wish.new.overfilled; housed = c.house_wish.new.housed.items })
      c.house_wish.ensures.as_long c.house_wish.ensures.as_many c.house_wish.ensures.all,
)

pub returns-clause-all : goal.returns-clause-all
returns-clause-all c =
    walk_end c.args.links.now (left_of c.args.links.now.state c.args.beds.now)
    (λ k. get_or c.args.marked.now k false) (λ k. get_or c.loop-wish.marked k false)
    (record { overfilled = c.args.overfilled.now; housed = c.args.housed.now.items })
    (record { overfilled = c.loop-wish.overfilled; housed = c.loop-wish.housed.items }) c.loop-wish.invariant.1
    (all_taken c.loop-wish.marked c.in_default.ensures.none)

pub returns-clause-unmarked : goal.returns-clause-unmarked
returns-clause-unmarked c =
    c.in_default.ensures.same ∙ c.in_default.ensures.none
    ∙ ap (λ n. replicate n false) c.loop-wish.invariant.0

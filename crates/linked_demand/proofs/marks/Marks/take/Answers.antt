use Rattle.std.proofs.Common.{arith, vec_capacity}
use Rattle.linked_demand.proofs.Marked.{last_marked, marked_within, one_taken}
use Rattle.linked_demand.proofs.marks.Marks.take.Goals as goal

pub set-requires : goal.set-requires
set-requires c =
    let r = c.self.inside in
    omega (
      arith,
      marked_within r.flags c.in_ok-place.place
          (last_marked r.flags r.places.items (vec_capacity r.places) c.self.invariant c.pop.new.self.items
          c.in_ok-place.place c.in_ok-place.ensures.items),
    )

pub invariant_of-self-2 : goal.invariant_of-self-2
invariant_of-self-2 c =
    let r = c.self.inside in
    rw c.set.ensures (one_taken r.flags r.places.items (vec_capacity r.places) c.self.invariant c.pop.new.self.items
    c.in_ok-place.place c.in_ok-place.ensures.items (vec_capacity c.pop.new.self)
    c.in_ok-place.ensures.capacity)

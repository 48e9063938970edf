use Rattle.std.proofs.Common.{◌≡◌, ◌<◌, false, get_or, length, arith, sym, ◌∙◌, ap, Bool, List}
use Rattle.linked_demand.proofs.Marked.{has_room, one_marked}
use Rattle.linked_demand.proofs.marks.Marks.set.Goals as goal

pub push_reserved-requires : goal.push_reserved-requires
push_reserved-requires c =
    let flags = c.self.inside.flags in
    let lt : c.args.place < length flags = omega (arith, c.requires, ap (λ (l : List Bool). length l) c.self.view_is) in
    let clear : get_or flags c.args.place false ≡ false = sym c.get.ensures ∙ c.if-not-get.true in
    omega (arith, has_room flags c.self.inside.places.items _ c.self.invariant c.args.place lt clear)

pub invariant_of-self : goal.invariant_of-self
invariant_of-self c =
    let flags = c.self.inside.flags in
    let lt : c.args.place < length flags = omega (arith, c.requires, ap (λ (l : List Bool). length l) c.self.view_is) in
    let clear : get_or flags c.args.place false ≡ false = sym c.get.ensures ∙ c.if-not-get.true in
    rw c.set.ensures (one_marked flags c.self.inside.places.items _ c.self.invariant c.args.place lt clear
    c.push_reserved.new.self.items _ c.push_reserved.ensures.items
    (omega (arith, c.push_reserved.ensures.capacity)))

use Rattle.std.proofs.Common.{ℕ, ◌<◌, not, List, length, arith, sym, ◌∙◌, ap, subst}
use Rattle.std.specs.List.Sorted.{IsNonDecreasing}
use Rattle.admit_core.proofs.Plain.{unlike, alike}
use Rattle.place_queue.specs.Queues.{Queue}
use Rattle.linked_demand.proofs.Answered.{was_answered, listed_rises, still_listed, room_for_one, one_listed}
use Rattle.linked_demand.proofs.Answered.{listed_within, one_dropped}
use Rattle.linked_demand.proofs.overfilled.Overfilled.put.Goals as goal
use Rattle.linked_demand.proofs.overfilled.Overfilled.put.Goals.{then-is_over-was_over+then-is_over}
use Rattle.linked_demand.proofs.overfilled.Overfilled.put.Goals.{then-is_over-was_over+else-is_over}
use Rattle.linked_demand.proofs.overfilled.Overfilled.put.Goals.{else-is_over-was_over}

pub first_not_below-at-requires : goal.first_not_below-at-requires
first_not_below-at-requires c =
    let P = λ (ks : List ℕ). IsNonDecreasing ks in
    subst P (sym c.as_slice.ensures)
    (listed_rises c.self.inside.ranks.items c.self.inside.places.items _ c.self.invariant)

pub insert-requires-clause-at : goal.insert-requires-clause-at
insert-requires-clause-at c =
    omega (arith, c.first_not_below-at.ensures.within, ap length c.as_slice.ensures)

pub insert-requires-clause-room : goal.insert-requires-clause-room
insert-requires-clause-room c =
    let ranks = c.self.inside.ranks.items in
    let lt : c.args.place < length ranks = omega (arith, c.requires, ap length c.self.view_is) in
    let was = was_answered ranks c.args.place c.index.result.now c.is_some-was_over.result lt
    c.index.ensures c.is_some-was_over.ensures in
    let none = was ∙ unlike c.is_some-is_over.result c.is_some-was_over.result c.if-is_over-was_over.true
    ∙ ap not c.if-is_over.true in
    omega (
      arith,
      room_for_one ranks c.self.inside.places.items _ c.self.invariant c.args.place c.args.rank lt
          c.as_slice.result.now c.as_slice.ensures c.first_not_below-at.result
          c.first_not_below-at.ensures.within c.first_not_below-at.ensures.point none,
    )

pub remove-requires : goal.remove-requires
remove-requires c =
    let ranks = c.self.inside.ranks.items in
    let lt : c.args.place < length ranks = omega (arith, c.requires, ap length c.self.view_is) in
    let was = was_answered ranks c.args.place c.index.result.now c.is_some-was_over.result lt
    c.index.ensures c.is_some-was_over.ensures in
    let some = was ∙ unlike c.is_some-is_over.result c.is_some-was_over.result c.if-is_over-was_over.true
    ∙ ap not c.if-is_over.false in
    omega (
      arith,
      listed_within ranks c.self.inside.places.items _ c.self.invariant c.args.place c.args.rank lt
          c.as_slice.result.now c.as_slice.ensures c.first_not_below-at.result
          c.first_not_below-at.ensures.within c.first_not_below-at.ensures.point some,
      ap length c.as_slice.ensures,
    )

pub invariant_of-self : goal.invariant_of-self
invariant_of-self c =
    let ranks = c.self.inside.ranks.items in
    let places = c.self.inside.places.items in
    let lt : c.args.place < length ranks = omega (arith, c.requires, ap length c.self.view_is) in
    let was = was_answered ranks c.args.place c.index.result.now c.is_some-was_over.result lt
    c.index.ensures c.is_some-was_over.ensures in
    elim c.if-is_over-was_over.branch [
      | then-is_over-was_over+then-is_over w ↦
          let none = was ∙ unlike c.is_some-is_over.result c.is_some-was_over.result
          w.if-is_over-was_over.true ∙ ap not w.if-is_over.true in
          rw w.self-inside-is
          (one_listed ranks places _ c.self.invariant c.args.place c.args.rank lt w.as_slice.result.now
          w.as_slice.ensures w.first_not_below-at.result w.first_not_below-at.ensures.within
          w.first_not_below-at.ensures.point none
          (sym c.is_some-is_over.ensures ∙ w.if-is_over.true) w.insert.new.self.items _
          (ap (λ (q : Queue). q.items) w.insert.ensures)
          (omega (arith, ap (λ (q : Queue). q.room) w.insert.ensures)))
      | then-is_over-was_over+else-is_over w ↦
          let some = was ∙ unlike c.is_some-is_over.result c.is_some-was_over.result
          w.if-is_over-was_over.true ∙ ap not w.if-is_over.false in
          rw w.self-inside-is
          (one_dropped ranks places _ c.self.invariant c.args.place c.args.rank lt w.as_slice.result.now
          w.as_slice.ensures w.first_not_below-at.result w.first_not_below-at.ensures.within
          w.first_not_below-at.ensures.point some
          (sym c.is_some-is_over.ensures ∙ w.if-is_over.false) w.remove.new.self.items _
          (ap (λ (q : Queue). q.items) w.remove.ensures)
          (omega (arith, ap (λ (q : Queue). q.room) w.remove.ensures)))
      | else-is_over-was_over w ↦
          rw w.self-inside-is
          (still_listed ranks places _ c.self.invariant c.args.place c.args.rank lt
          (sym c.is_some-is_over.ensures
          ∙ alike c.is_some-is_over.result c.is_some-was_over.result w.if-is_over-was_over.false ∙ sym was))
    ]

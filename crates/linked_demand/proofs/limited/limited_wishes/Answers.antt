use Rattle.std.proofs.Common.{ℕ, List, [], ◌∷◌, ◌++◌, refl, sym, ◌∙◌, ap, arith}
use Rattle.day_state.specs.Kept.{wish_in}
use Rattle.linked_demand.specs.Seats.{is_called_by_limit}
use Rattle.linked_demand.proofs.Closing.{wish_there}
use Rattle.linked_demand.proofs.Keeping.{range_kept, range_left}
use Rattle.linked_demand.proofs.NeedNoSeat.{limited_below}
use Rattle.linked_demand.proofs.limited.limited_wishes.Goals as goal
use Rattle.linked_demand.proofs.limited.limited_wishes.Goals.{then-is_called_by_limit+in_ok-push}
use Rattle.linked_demand.proofs.limited.limited_wishes.Goals.{else-is_called_by_limit}

pub loop-wish-preserved : goal.loop-wish-preserved
loop-wish-preserved c =
    let d = c.args.state.now.dossier in
    let q = λ (j : ℕ). is_called_by_limit d c.args.orders.now.orders (wish_in d.wishes j) in
    let k = c.loop-wish.wish in
    let here = wish_there d.wishes k (wish_in d.wishes k)
    (omega (arith, c.loop-wish-test.true, c.wish_count-wish-end.ensures)) refl in
    let called = sym (c.requires.called_are k (wish_in d.wishes k) here) ∙ sym c.is_called_by_limit.ensures in
    elim c.if-is_called_by_limit.branch [
      | then-is_called_by_limit+in_ok-push w ↦
          rw w.limited-is
          (w.in_ok-push.ensures.items
          ∙ ap (λ (ks : List ℕ). ks ++ k ∷ []) c.loop-wish.invariant
          ∙ sym (range_kept q k (called ∙ w.if-is_called_by_limit.true)))
      | else-is_called_by_limit w ↦
          rw w.limited-is
          (c.loop-wish.invariant ∙ sym (range_left q k (called ∙ w.if-is_called_by_limit.false)))
    ]

pub returns : goal.returns
returns c =
    let d = c.args.state.now.dossier in
    c.loop-wish.invariant ∙ limited_below d c.args.orders.now.orders c.loop-wish.wish
    (omega (arith, c.loop-wish-test.false, c.loop-wish.auto.wish-end, c.wish_count-wish-end.ensures))

use Rattle.std.proofs.Common.{ℕ, false, get_or, refl, sym, ◌∙◌}
use Rattle.linked_demand.proofs.Listing.{lists_all, lists_left, lists_none, lists_some, passing}
use Rattle.linked_demand.proofs.fronts.list_open.Goals as goal
use Rattle.linked_demand.proofs.fronts.list_open.Goals.{then-get+in_ok-push, else-get}

pub loop-wish-init : goal.loop-wish-init
loop-wish-init c =
    lists_none (passing (λ k. get_or c.args.opens.now k false) c.args.wishes.now 0) c.args.found.now.items (λ k. refl)

pub loop-wish-preserved : goal.loop-wish-preserved
loop-wish-preserved c =
    let q = λ (k : ℕ). get_or c.args.opens.now k false in
    let ks = c.args.wishes.now in
    let i = c.loop-wish.wish-index in
    let x : ℕ = get_or ks i 0 in
    let old = c.args.found.now.items in
    let now = c.loop-wish.found.items in
    elim c.if-get.branch [
      | then-get+in_ok-push w ↦
          rw w.found-is
          (lists_some q ks i x old now w.push.new.self.items c.loop-wish-test.true refl
          (sym c.get.ensures ∙ w.if-get.true)
          w.in_ok-push.ensures.items c.loop-wish.invariant)
      | else-get w ↦
          rw w.found-is
          (lists_left q ks i x old now c.loop-wish-test.true refl
          (sym c.get.ensures ∙ w.if-get.false) c.loop-wish.invariant)
    ]

pub returns : goal.returns
returns c =
    lists_all (λ k. get_or c.args.opens.now k false) c.args.wishes.now c.loop-wish.wish-index c.args.found.now.items
    c.loop-wish.found.items c.loop-wish-test.false c.loop-wish.invariant

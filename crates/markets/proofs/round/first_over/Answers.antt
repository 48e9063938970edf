use Rattle.std.proofs.Common.{ℕ, List, Option, Some, ◌≡◌, ◌+◌, ◌-◌, ◌∙◌, sym, ap, arith, length}
use Rattle.std.specs.Prelude.{slice_index}
use Rattle.markets.specs.Rounds.{held_to}
use Rattle.markets.proofs.Rounds.{held_before, one_less, none_less, first_past}
use Rattle.markets.proofs.round.first_over.Goals as goal
use Rattle.markets.proofs.round.first_over.Goals.{then-is_at+else-left-seats-2, else-is_at}

pub returns-then-left-seats-2 : goal.returns-then-left-seats-2
returns-then-left-seats-2 c =
    let m = c.args.market.now in
    let places : List (Option ℕ) = c.args.seating.now.places.items in
    let p : ℕ = c.args.programme in
    let bar : ℕ = c.args.bar in
    let k : ℕ = bar - (c.loop-passed.passed + 1) in
    let here : bar - c.loop-passed.passed ≡ k + 1 = omega (arith, c.loop-passed-test.true) in
    let held = held_before m places p bar c.loop-passed.passed c.order-order.result.now c.index.result.now
    c.order-order.ensures.order
    c.order-order.ensures.within c.requires.places c.requires.bar c.loop-passed-test.true c.index.ensures
    ∙ sym c.is_at.ensures ∙ c.if-is_at.true in
    let long : length (held_to m places p k) ≡ slice_index c.args.seating.now.filling.seats p =
    omega (
      arith,
      one_less m places p k held,
      c.loop-passed.invariant.0,
      ap (λ i. length (held_to m places p i)) here,
      c.if-left-seats-2.true,
      c.seats-seats.ensures,
    ) in
    ap Some here ∙ sym (first_past m places p k bar (slice_index c.args.seating.now.filling.seats p)
    (omega (arith, here)) held long)

pub loop-passed-preserved : goal.loop-passed-preserved
loop-passed-preserved c =
    let m = c.args.market.now in
    let places : List (Option ℕ) = c.args.seating.now.places.items in
    let p : ℕ = c.args.programme in
    let k : ℕ = c.args.bar - (c.loop-passed.passed + 1) in
    let here : c.args.bar - c.loop-passed.passed ≡ k + 1 = omega (arith, c.loop-passed-test.true) in
    let asked = held_before m places p c.args.bar c.loop-passed.passed c.order-order.result.now c.index.result.now
    c.order-order.ensures.order c.order-order.ensures.within c.requires.places c.requires.bar c.loop-passed-test.true
    c.index.ensures
    ∙ sym c.is_at.ensures in
    let was : c.loop-passed.left ≡ length (held_to m places p (k + 1)) = c.loop-passed.invariant.0
    ∙ ap (λ i. length (held_to m places p i)) here in
    elim c.if-is_at.branch [
      | then-is_at+else-left-seats-2 w ↦ (
        omega (arith, w.left-is, was, one_less m places p k (asked ∙ w.if-is_at.true)),
        omega (arith, w.left-is, c.loop-passed.invariant.1, w.if-left-seats-2.false),
      )
      | else-is_at w ↦ (
        omega (arith, w.left-is, was, none_less m places p k (asked ∙ w.if-is_at.false)),
        omega (arith, w.left-is, c.loop-passed.invariant.1),
      )
    ]

use Rattle.std.proofs.Common.{ℕ, List, [], true, ◌≡◌, ◌∙◌, sym, ap, not, arith, get_or, length}
use Rattle.std.specs.Prelude.{slice_index}
use Rattle.markets.specs.Meeting.{is_met}
use Rattle.markets.proofs.Ordering.{range_found, range_none}
use Rattle.markets.proofs.Reading.{list_read}
use Rattle.markets.proofs.in_place.first_unmet.Goals as goal

pub returns-then-not-is_met : goal.returns-then-not-is_met
returns-then-not-is_met c =
    let k : ℕ = c.loop-place.place in
    let orders : List (List ℕ) = c.args.orders.now in
    let notes : List ℕ = c.args.notes.now in
    let read = list_read orders k c.index-orders-place.result c.as_slice.result.now c.loop-place-test.true
    c.index-orders-place.is c.as_slice.ensures in
    let unmet : not (is_met (get_or orders k []) (slice_index notes k)) ≡ true =
    ap (λ (ys : List ℕ). not (is_met ys (slice_index notes k))) (sym read)
    ∙ ap not (sym c.is_met.ensures ∙ c.if-not-is_met.true) in
    sym (range_found (λ p. not (is_met (get_or orders p []) (slice_index notes p))) 0 (length orders) k (omega arith)
    (omega (arith, c.loop-place-test.true)) (λ i le lt. c.loop-place.invariant i lt) unmet)

pub returns : goal.returns
returns c =
    let orders : List (List ℕ) = c.args.orders.now in
    let notes : List ℕ = c.args.notes.now in
    sym (range_none (λ p. not (is_met (get_or orders p []) (slice_index notes p))) 0 (length orders)
    (λ i le lt. c.loop-place.invariant i (omega (arith, lt, c.loop-place-test.false))))

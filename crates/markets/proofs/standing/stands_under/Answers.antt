use Rattle.std.proofs.Common.{◌≡◌, ◌∙◌, arith, ap, length}
use Rattle.markets.specs.Markets.{MarketRows}
use Rattle.markets.proofs.Seated.{stands_none, stands_more}
use Rattle.markets.proofs.standing.stands_under.Goals as goal

pub loop-candidate-init : goal.loop-candidate-init
loop-candidate-init c = stands_none c.args.market.now c.args.bars.now c.new-stands.result.items
    c.new-stands.ensures.items

pub first_within-requires-clause-candidate : goal.first_within-requires-clause-candidate
first_within-requires-clause-candidate c =
    let count = c.candidates-candidate-end.ensures ∙ ap (λ (r : MarketRows). length r.lists) c.market.ensures in
    omega (arith, c.loop-candidate-test.true, count)

pub first_within-requires-clause-beyond : goal.first_within-requires-clause-beyond
first_within-requires-clause-beyond c = λ k lt. absurd (omega (arith, lt))

pub loop-candidate-preserved : goal.loop-candidate-preserved
loop-candidate-preserved c =
    stands_more c.args.market.now c.args.bars.now c.loop-candidate.candidate c.first_within.result
    c.loop-candidate.stands.items
    c.push.new.self.items c.in_ok-push.ensures.items c.first_within.ensures c.loop-candidate.invariant

pub returns : goal.returns
returns c =
    let are = c.loop-candidate.invariant in
    let count = c.candidates-candidate-end.ensures ∙ ap (λ (r : MarketRows). length r.lists) c.market.ensures in
    let all : c.loop-candidate.candidate ≡ length c.args.market.now.lists =
    omega (arith, c.loop-candidate-test.false, c.loop-candidate.auto.candidate-end, count) in
    record { one_each = are.one_each ∙ all; each = λ x lt. are.each x (omega (arith, lt, all)) }

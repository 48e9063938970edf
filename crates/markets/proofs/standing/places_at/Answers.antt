use Rattle.std.proofs.Common.{ℕ, ◌<◌, ◌∙◌, arith, length}
use Rattle.linked_demand.proofs.Flagging.{more_of}
use Rattle.markets.specs.Bars.{best_within}
use Rattle.markets.proofs.standing.places_at.Goals as goal

pub loop-candidate-preserved : goal.loop-candidate-preserved
loop-candidate-preserved c =
    let m = c.args.market.now in
    let k : ℕ = c.loop-candidate.candidate in
    let lt : k < length m.lists = omega (arith, c.loop-candidate-test.true, c.candidates-candidate-end.ensures) in
    more_of (best_within m c.args.bars.now) k c.loop-candidate.places.items c.push.new.self.items c.place_at.result
    c.in_ok-push.ensures.items c.loop-candidate.invariant (c.place_at.ensures ∙ (c.requires.each k lt).best)

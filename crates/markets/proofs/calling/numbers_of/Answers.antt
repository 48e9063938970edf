use Rattle.std.proofs.Common.{nat_eq}
use Rattle.std.specs.List.{position_or_len}
use Rattle.markets.proofs.OneMore.{mapped_more}
use Rattle.markets.proofs.calling.numbers_of.Goals as goal

pub loop-candidate-preserved : goal.loop-candidate-preserved
loop-candidate-preserved c =
    mapped_more (λ k. position_or_len (nat_eq k) c.args.names.now.keys) c.args.order.now
    c.loop-candidate.candidate-index 0 c.loop-candidate.numbers.items c.push.new.self.items c.number_of.result
    c.loop-candidate-test.true c.in_ok-push.ensures.items c.loop-candidate.invariant c.number_of.ensures

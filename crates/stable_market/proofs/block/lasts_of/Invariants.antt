use Rattle.stable_market.proofs.LastNoting.{AreLastsTo}
use Rattle.stable_market.proofs.block.lasts_of.Given as goal

abbrev pub invariant-loop-candidate : goal.invariant-loop-candidate
invariant-loop-candidate l = AreLastsTo l.market l.places l.candidate l.lasts.items

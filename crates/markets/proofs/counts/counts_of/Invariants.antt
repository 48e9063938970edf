use Rattle.std.proofs.Common.{length}
use Rattle.markets.proofs.Noting.{AreCountsTo}
use Rattle.markets.proofs.counts.counts_of.Given as goal

abbrev pub invariant-loop-place : goal.invariant-loop-place
invariant-loop-place l = AreCountsTo (length l.market.orders) l.places l.place-index l.counts.items

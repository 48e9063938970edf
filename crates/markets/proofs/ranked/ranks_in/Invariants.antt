use Rattle.markets.specs.Ranked.{AreRanked}
use Rattle.markets.proofs.ranked.ranks_in.Given as goal

abbrev pub invariant-loop-programme : goal.invariant-loop-programme
invariant-loop-programme l = AreRanked l.market l.programme l.rows.items

use Rattle.markets.proofs.Seated.{AreStandsTo}
use Rattle.markets.proofs.standing.stands_under.Given as goal

abbrev pub invariant-loop-candidate : goal.invariant-loop-candidate
invariant-loop-candidate l = AreStandsTo l.market l.bars l.candidate l.stands.items

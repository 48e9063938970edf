use Rattle.markets.specs.Standing.{AreBeyond}
use Rattle.markets.proofs.standing.first_within.Given as goal

abbrev pub invariant-loop-stand : goal.invariant-loop-stand
invariant-loop-stand l = AreBeyond l.market l.bars l.candidate l.stand

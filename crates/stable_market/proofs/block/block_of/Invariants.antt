use Rattle.stable_market.proofs.Blocking.{ArePassed}
use Rattle.stable_market.proofs.block.block_of.Given as goal

abbrev pub invariant-loop-programme : goal.invariant-loop-programme
invariant-loop-programme l = ArePassed l.market l.places l.candidate l.place l.programme-items l.programme-index

use Rattle.envy.specs.Known.{AreBestTo}
use Rattle.envy.proofs.known.best_wishes.Given as goal

abbrev pub invariant-loop-place : goal.invariant-loop-place
invariant-loop-place l = AreBestTo l.state l.place l.best.items

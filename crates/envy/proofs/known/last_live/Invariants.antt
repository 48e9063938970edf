use Rattle.envy.specs.Known.{AreLastTo}
use Rattle.envy.proofs.known.last_live.Given as goal

abbrev pub invariant-loop-place : goal.invariant-loop-place
invariant-loop-place l = AreLastTo l.state l.roster.orders l.place l.lasts.items

use Rattle.markets.specs.Listers.{AreListers}
use Rattle.markets.proofs.listers.listers_of.Given as goal

abbrev pub invariant-loop-place : goal.invariant-loop-place
invariant-loop-place l = AreListers l.lists l.count l.place l.rows.items

use Rattle.std.proofs.Common.{[]}
use Rattle.markets.specs.Listers.{AreListers}
use Rattle.markets.proofs.listers.empty_rows.Given as goal

abbrev pub invariant-loop-row : goal.invariant-loop-row
invariant-loop-row l = AreListers [] l._row 0 l.rows.items

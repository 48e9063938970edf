use Rattle.linked_demand.specs.Keyed.{AreEmpty}
use Rattle.markets.proofs.ranked.no_ranks.Given as goal

abbrev pub invariant-loop-row : goal.invariant-loop-row
invariant-loop-row l = AreEmpty l._row l.rows.items

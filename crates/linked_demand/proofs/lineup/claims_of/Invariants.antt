use Rattle.std.proofs.Common.{length}
use Rattle.linked_demand.specs.Called.{AreRowsFrom}
use Rattle.linked_demand.specs.CalledWishes.{called_wishes_for}
use Rattle.linked_demand.proofs.Seating.{IsBuilt}
use Rattle.linked_demand.proofs.lineup.claims_of.Given as goal

abbrev pub invariant-loop-programme : goal.invariant-loop-programme
invariant-loop-programme l = record {
  built : IsBuilt l.state.dossier l.orders.orders l.programme l.claims.items l.notes;
  called : AreRowsFrom l.programme (length l.state.dossier.programmes)
      (called_wishes_for l.state.dossier l.orders.orders) l.called.items;
}

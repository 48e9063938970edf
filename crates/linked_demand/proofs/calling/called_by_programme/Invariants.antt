use Rattle.linked_demand.specs.Called.{called_all}
use Rattle.linked_demand.specs.CalledWishes.{called_wish_at}
use Rattle.linked_demand.specs.Claims.{AreApplicationsFrom}
use Rattle.linked_demand.specs.Keyed.{ArePutIn}
use Rattle.linked_demand.specs.Seats.{applies_at}
use Rattle.linked_demand.proofs.calling.called_by_programme.Given as goal

abbrev pub invariant-loop-group : goal.invariant-loop-group
invariant-loop-group l = record {
  called : ArePutIn (called_wish_at l.state.dossier l.orders.orders) (applies_at l.state.dossier)
      (called_all l.state.dossier l.orders.orders l.group) l.initial.called.items l.called.items;
  of_groups : AreApplicationsFrom l.state.dossier l.group l.rows.items;
}

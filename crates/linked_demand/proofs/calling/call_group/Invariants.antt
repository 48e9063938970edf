use Rattle.std.proofs.Common.{take}
use Rattle.std.specs.List.{flat_map}
use Rattle.linked_demand.specs.Called.{group_claim}
use Rattle.linked_demand.specs.CalledWishes.{called_wish_at}
use Rattle.linked_demand.specs.Keyed.{ArePutIn}
use Rattle.linked_demand.specs.Seats.{applies_at}
use Rattle.linked_demand.proofs.calling.call_group.Given as goal

abbrev pub invariant-loop-before : goal.invariant-loop-before
invariant-loop-before l = ArePutIn (called_wish_at l.state.dossier l.orders.orders) (applies_at l.state.dossier)
    (flat_map (group_claim l.state.dossier l.group) (take l.before l.order)) l.fn.called.items l.called.items

use Rattle.std.proofs.Common.{take}
use Rattle.linked_demand.specs.CalledWishes.{called_wish_at}
use Rattle.linked_demand.specs.Claims.{wishes_of}
use Rattle.linked_demand.specs.Keyed.{ArePutIn}
use Rattle.linked_demand.specs.Seats.{applies_at}
use Rattle.linked_demand.proofs.calling.deal.Given as goal

abbrev pub invariant-loop-application : goal.invariant-loop-application
invariant-loop-application l = ArePutIn (called_wish_at l.state.dossier l.orders.orders) (applies_at l.state.dossier)
    (take l.application-index (wishes_of l.claim)) l.fn.called.items l.called.items

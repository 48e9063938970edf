use Rattle.linked_demand.specs.Rungs.{rungs_of}
use Rattle.linked_demand.proofs.RungSteps.{IsFrontOf}
use Rattle.linked_demand.proofs.row_beds.RowBeds.give_up.Given as goal

abbrev pub invariant-places : goal.invariant-places
invariant-places l = IsFrontOf (rungs_of l.fn.self) (rungs_of l.self)

abbrev pub decreases-places : goal.decreases-places
decreases-places l = l.self.known

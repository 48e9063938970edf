use Rattle.std.proofs.Common.{◌≡◌, nat_le}
use Rattle.linked_demand.specs.Housed.{kept}
use Rattle.linked_demand.specs.Rungs.{rungs_of}
use Rattle.linked_demand.proofs.row_beds.RowBeds.cut.Given as goal

abbrev pub invariant-loop-self : goal.invariant-loop-self
invariant-loop-self l =
    kept (λ r. nat_le r l.to) (rungs_of l.self) ≡ kept (λ r. nat_le r l.to) (rungs_of l.initial.self)

abbrev pub decreases-loop-self : goal.decreases-loop-self
decreases-loop-self l = l.self.known

use Rattle.std.proofs.Common.{◌-◌, length}
use Rattle.linked_demand.specs.Claims.{candidates_of}
use Rattle.linked_demand.proofs.ClaimSpans.{IsAlike}
use Rattle.linked_demand.proofs.claims.first_above.Given as goal

abbrev pub invariant-loop-to : goal.invariant-loop-to
invariant-loop-to l = IsAlike (candidates_of l.applications) l.candidate l.from l.to

abbrev pub decreases-loop-to : goal.decreases-loop-to
decreases-loop-to l = length l.applications - l.to

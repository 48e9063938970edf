use Rattle.std.proofs.Common.{◌≡◌, ◌+◌, ◌-◌, ◌≤◌, length, drop}
use Rattle.linked_demand.specs.Line.{next}
use Rattle.linked_demand.specs.Wants.{wants_along}
use Rattle.linked_demand.proofs.line.next_wanting.Given as goal

abbrev pub invariant-loop-at : goal.invariant-loop-at
invariant-loop-at l =
    (l.at ≤ length l.claims)
    × (l.at + next (drop l.at (wants_along l.state l.opens l.claims)) ≡ l.from + next
    (drop l.from (wants_along l.state l.opens l.claims)))

abbrev pub decreases-loop-at : goal.decreases-loop-at
decreases-loop-at l = length l.claims - l.at

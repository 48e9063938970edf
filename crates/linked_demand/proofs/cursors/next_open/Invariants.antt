use Rattle.std.proofs.Common.{◌≡◌, ◌-◌, ◌≤◌, false, length, drop, get_or}
use Rattle.std.specs.List.{list_any}
use Rattle.linked_demand.proofs.cursors.next_open.Given as goal

abbrev pub invariant-loop-at : goal.invariant-loop-at
invariant-loop-at l =
    (l.at ≤ length l.claim)
    × (list_any (λ k. get_or l.opens k false) (drop l.from l.claim)
    ≡ list_any (λ k. get_or l.opens k false) (drop l.at l.claim))

abbrev pub decreases-loop-at : goal.decreases-loop-at
decreases-loop-at l = length l.claim - l.at

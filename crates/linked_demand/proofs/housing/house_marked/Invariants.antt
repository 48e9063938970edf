use Rattle.std.proofs.Common.{◌≡◌, count_by, false, get_or, length}
use Rattle.linked_demand.specs.Lent.{left_of}
use Rattle.linked_demand.proofs.HousedMarks.{IsWalked}
use Rattle.linked_demand.proofs.housing.house_marked.Given as goal

abbrev pub invariant-loop-wish : goal.invariant-loop-wish
invariant-loop-wish l =
    (length l.marked ≡ length l.initial.marked)
    × IsWalked l.links (left_of l.links.state l.beds) (λ k. get_or l.initial.marked k false)
    (λ k. get_or l.marked k false)
    (record { overfilled = l.initial.overfilled; housed = l.initial.housed.items })
    (record { overfilled = l.overfilled; housed = l.housed.items })

abbrev pub decreases-loop-wish : goal.decreases-loop-wish
decreases-loop-wish l = count_by (λ b. b) l.marked

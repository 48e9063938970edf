use Rattle.std.proofs.Common.{drop}
use Rattle.admit_core.specs.Lists.{is_among}
use Rattle.linked_demand.specs.Lent.{left_of}
use Rattle.linked_demand.proofs.HousedMarks.{IsWalked}
use Rattle.linked_demand.proofs.housing.house_listed.Given as goal

abbrev pub invariant-loop-wish : goal.invariant-loop-wish
invariant-loop-wish l =
    IsWalked l.links (left_of l.links.state l.beds) (λ k. is_among k l.wishes)
    (λ k. is_among k (drop l.wish-index l.wishes))
    (record { overfilled = l.initial.overfilled; housed = l.initial.housed.items })
    (record { overfilled = l.overfilled; housed = l.housed.items })

use Rattle.std.proofs.Common.{false, get_or}
use Rattle.linked_demand.specs.Fronts.{ListsAlso}
use Rattle.linked_demand.proofs.Listing.{passing}
use Rattle.linked_demand.proofs.fronts.list_open.Given as goal

abbrev pub invariant-loop-wish : goal.invariant-loop-wish
invariant-loop-wish l = ListsAlso (passing (λ k. get_or l.opens k false) l.wishes l.wish-index)
    l.fn.found.items l.found.items

use Rattle.std.proofs.Common.{take}
use Rattle.linked_demand.specs.Fronts.{claimed_open, ListsAlso}
use Rattle.linked_demand.proofs.fronts.list_front.Given as goal

abbrev pub invariant-loop-place : goal.invariant-loop-place
invariant-loop-place l = ListsAlso (claimed_open l.opens (take l.place l.claims)) l.fn.found.items l.found.items

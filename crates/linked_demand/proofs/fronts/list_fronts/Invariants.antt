use Rattle.linked_demand.specs.Fronts.{reached_open, ListsAlso}
use Rattle.linked_demand.proofs.fronts.list_fronts.Given as goal

abbrev pub invariant-loop-programme : goal.invariant-loop-programme
invariant-loop-programme l = ListsAlso (reached_open l.opens l.lines l.reached l.programme) l.fn.found.items
    l.found.items

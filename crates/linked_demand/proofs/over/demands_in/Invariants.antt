use Rattle.std.proofs.Common.{◌≡◌, ◌++◌, drop}
use Rattle.linked_demand.specs.Demand.{is_proposed_at, firsts}
use Rattle.linked_demand.specs.Rows.{row_in}
use Rattle.linked_demand.proofs.over.demands_in.Given as goal

abbrev pub invariant-loop-item : goal.invariant-loop-item
invariant-loop-item l = firsts (is_proposed_at l.links) 0 (row_in l.links.state l.front)
    ≡ l.demands.items ++ firsts (is_proposed_at l.links) l.named (row_in l.links.state (drop l.item-index l.front))

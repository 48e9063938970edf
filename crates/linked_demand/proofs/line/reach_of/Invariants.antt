use Rattle.std.proofs.Common.{◌≡◌, ◌+◌, drop}
use Rattle.linked_demand.specs.Line.{reach}
use Rattle.linked_demand.specs.Wants.{wants_along}
use Rattle.linked_demand.proofs.line.reach_of.Given as goal

abbrev pub invariant-loop-place : goal.invariant-loop-place
invariant-loop-place l = reach l.seats (wants_along l.state l.opens l.claims) ≡ l.place + reach l.left
    (drop l.place (wants_along l.state l.opens l.claims))

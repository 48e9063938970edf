use Rattle.std.proofs.Common.{◌≡◌, map}
use Rattle.std.specs.List.{range_with_len}
use Rattle.linked_demand.specs.Opens.{seat_row}
use Rattle.linked_demand.specs.Wants.{reach_in}
use Rattle.linked_demand.proofs.seats.reached_of.Given as goal

abbrev pub invariant-loop-programme : goal.invariant-loop-programme
invariant-loop-programme l = l.reached.items ≡ map
    (λ p. reach_in (seat_row l.state l.orders.orders l.opens p)) (range_with_len 0 l.programme)

use Rattle.std.proofs.Common.{◌≡◌, filter}
use Rattle.std.specs.List.{range_with_len}
use Rattle.day_state.specs.Kept.{wish_in}
use Rattle.linked_demand.specs.Seats.{is_called_by_limit}
use Rattle.linked_demand.proofs.limited.limited_wishes.Given as goal

abbrev pub invariant-loop-wish : goal.invariant-loop-wish
invariant-loop-wish l =
    l.limited.items
    ≡ filter (λ k. is_called_by_limit l.state.dossier l.orders.orders (wish_in l.state.dossier.wishes k))
    (range_with_len 0 l.wish)

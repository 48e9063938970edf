use Rattle.worked_parts.proofs.orders.order_shown.Goals as goal

pub orders_shown-requires : goal.orders_shown-requires
orders_shown-requires c = rw c.as_slice-groups.ensures (λ k d lt. (c.dossier.invariant.groups k d lt).ranking)

use Rattle.worked_dossiers.proofs.tables.call_orders_of.Goals as goal

pub call_orders-requires : goal.call_orders-requires
call_orders-requires c = rw c.as_slice-groups.ensures (λ k d lt. (c.dossier.invariant.groups k d lt).ranking)

use Rattle.worked_parts.proofs.orders.nation_shown.Goals as goal

pub are_nations_called-requires : goal.are_nations_called-requires
are_nations_called-requires c = rw c.as_slice-groups.ensures (λ k d lt. (c.dossier.invariant.groups k d lt).ranking)

use Rattle.worked_parts.proofs.queues.shown.Goals as goal

pub queues_shown-requires : goal.queues_shown-requires
queues_shown-requires c = rw c.as_slice-groups.ensures (λ k d lt. (c.dossier.invariant.groups k d lt).ranking)

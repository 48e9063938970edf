use Rattle.worked_parts.proofs.queues.queues_shown.Given as goal

abbrev pub ghosts-push_group : goal.ghosts-push_group
ghosts-push_group a = record { name = a.blank.name; parts = a.blank.parts }

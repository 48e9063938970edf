use Rattle.worked_dossiers.proofs.alike.seen_of.Given as goal

abbrev pub ghosts-seen_alike : goal.ghosts-seen_alike
ghosts-seen_alike a = record { name = a.blank.name; parts = a.blank.parts }

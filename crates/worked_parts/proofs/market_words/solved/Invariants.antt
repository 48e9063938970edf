use Rattle.worked_parts.proofs.market_words.solved.Given as goal

abbrev pub ghosts-solved_counted : goal.ghosts-solved_counted
ghosts-solved_counted g a = record { name = a.blank.name; parts = a.blank.parts }

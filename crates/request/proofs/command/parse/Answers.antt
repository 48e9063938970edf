use Rattle.clap.specs.Words.{app_of}
use Rattle.request.specs.Command.{parcours}
use Rattle.request.proofs.Parses.{kinds_as, matches_as, parcours_is_free, parcours_is_simple}
use Rattle.request.proofs.command.parse.Goals as goal

pub returns-clause-kinds : goal.returns-clause-kinds
returns-clause-kinds c = kinds_as c.try_get_matches_from.result (app_of c.in_ok-command.command) parcours _
    c.in_ok-command.ensures parcours_is_free c.try_get_matches_from.ensures.kinds

pub returns-clause-matches : goal.returns-clause-matches
returns-clause-matches c = matches_as c.try_get_matches_from.result (app_of c.in_ok-command.command) parcours _
    c.in_ok-command.ensures parcours_is_simple c.try_get_matches_from.ensures.matches

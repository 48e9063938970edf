use Rattle.std.proofs.Common.{sym}
use Rattle.dossier_check.proofs.who_is_ranked.search_near.Goals as goal

pub returns-in-Some : goal.returns-in-Some
returns-in-Some c ascends = sym c.in-Some.ensures

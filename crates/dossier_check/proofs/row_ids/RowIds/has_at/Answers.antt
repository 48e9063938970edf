use Rattle.std.proofs.Common.{sym, ◌∙◌, arith}
use Rattle.std.proofs.lemmas.Bool.Decides.{nat_tests}
use Rattle.dossier_check.proofs.RisingIds.{place_once}
use Rattle.dossier_check.proofs.row_ids.RowIds.has_at.Goals as goal

pub returns-in-Some : goal.returns-in-Some
returns-in-Some c same =
    place_once c.args.self.now.keys c.args.id c.args.place c.in-Some.there c.len.ensures.unique
    (sym c.id_at.ensures ∙ c.in-Some.is) (grind (arith, nat_tests))

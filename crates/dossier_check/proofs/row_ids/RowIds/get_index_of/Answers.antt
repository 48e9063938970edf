use Rattle.std.proofs.Common.{is_some, sym, ap, ◌∙◌}
use Rattle.dossier_check.proofs.RisingIds.{found_by_place}
use Rattle.dossier_check.proofs.row_ids.RowIds.get_index_of.Goals as goal

pub returns-in-Some-clause-found : goal.returns-in-Some-clause-found
returns-in-Some-clause-found c =
    sym (ap is_some c.in-Some.ensures) ∙ found_by_place c.args.self.now.keys c.args.id

pub returns-in-None-clause-found : goal.returns-in-None-clause-found
returns-in-None-clause-found c =
    ap is_some c.search.ensures ∙ found_by_place c.args.self.now.keys c.args.id

use Rattle.std.proofs.Common.{is_some, sym, ap, ◌∙◌}
use Rattle.dossier_check.proofs.RisingIds.{found_by_place}
use Rattle.dossier_check.proofs.row_ids.RowIds.find_near.Goals as goal

pub returns-then-has_at-clause-found : goal.returns-then-has_at-clause-found
returns-then-has_at-clause-found c =
    sym (ap is_some (c.has_at.ensures c.if-has_at.true)) ∙ found_by_place c.args.self.now.keys c.args.id

use Rattle.std.proofs.Common.{nat_eq, sym}
use Rattle.dossier_check.proofs.Firsts.{position-none}
use Rattle.dossier_check.proofs.row_ids.RowIds.add.Goals as goal

pub returns-then-branch-clause-found : goal.returns-then-branch-clause-found
returns-then-branch-clause-found c =
    sym (position-none (nat_eq c.args.id) c.args.self.now.keys (c.in_ok-add_last.ensures.is_new c.if-branch.true))

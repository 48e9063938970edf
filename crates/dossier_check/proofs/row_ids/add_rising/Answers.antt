use Rattle.std.proofs.Common.{rules}
use Rattle.admit_core.proofs.Plain.{on_err}
use Rattle.dossier_check.proofs.RisingIds.{none_before}
use Rattle.dossier_check.proofs.row_ids.add_rising.Goals as goal

pub returns-in_err-push-clause-told : goal.returns-in_err-push-clause-told
returns-in_err-push-clause-told c = on_err _ (none_before c.args.ids.now.items c.args.id (search rules))

pub returns-clause-is_new : goal.returns-clause-is_new
returns-clause-is_new c e = none_before c.args.ids.now.items c.args.id (search rules)

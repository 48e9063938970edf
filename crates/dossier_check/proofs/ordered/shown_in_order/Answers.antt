use Rattle.std.proofs.Common.{refl}
use Rattle.dossier_check.proofs.Reordered.{no_wish_fault}
use Rattle.dossier_check.proofs.ordered.shown_in_order.Goals as goal

pub returns-clause-fault : goal.returns-clause-fault
returns-clause-fault c there =
    no_wish_fault c.args.tables.now (c.in_ok-ids.ensures.fault (rw c.in-Some-2.is refl))
    (c.in_ok-kept.ensures.fault (rw c.in-Some.is refl))

use Rattle.dossier_csv.proofs.Records.{reads-next}
use Rattle.dossier_csv.proofs.table.next_row.Goals as goal

pub returns-in-Ok : goal.returns-in-Ok
returns-in-Ok c = λ left has.
    reads-next _ _ _ _ _ left has (c.in-Ok.ensures.reads has.plain has.ready)
    (c.in-Ok.ensures.ready has.plain) c.in-Ok.ensures.flexible

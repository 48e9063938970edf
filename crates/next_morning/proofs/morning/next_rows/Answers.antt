use Rattle.std.proofs.Common.{option_copied}
use Rattle.next_morning.proofs.RowsBack.{next_rows_are}
use Rattle.next_morning.proofs.morning.next_rows.Goals as goal

pub returns-clause-rows : goal.returns-clause-rows
returns-clause-rows c = λ t same none.
    next_rows_are c.args.day t c.args.evening.now (option_copied c.args.dated) _ _ _ c.in_ok-turn.ensures.turned
    c.in_ok-rows.ensures.rows c.dossier.ensures same none

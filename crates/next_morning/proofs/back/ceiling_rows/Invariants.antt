use Rattle.std.proofs.Common.{◌≡◌, map, take}
use Rattle.next_morning.specs.RowsBack.{ceiling_row}
use Rattle.next_morning.proofs.back.ceiling_rows.Given as goal

abbrev pub invariant-loop-change : goal.invariant-loop-change
invariant-loop-change l = l.rows.items ≡ map (ceiling_row l.dossier) (take l.change-index l.changes)

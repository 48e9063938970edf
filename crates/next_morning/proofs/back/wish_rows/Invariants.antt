use Rattle.std.proofs.Common.{◌≡◌, map, take}
use Rattle.next_morning.specs.RowsBack.{wish_row}
use Rattle.next_morning.proofs.back.wish_rows.Given as goal

abbrev pub invariant-loop-wish : goal.invariant-loop-wish
invariant-loop-wish l = l.rows.items ≡ map (wish_row l.dossier) (take l.wish-index l.wishes)

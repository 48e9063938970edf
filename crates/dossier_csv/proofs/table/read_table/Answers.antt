use Rattle.std.proofs.Common.{sym}
use Rattle.dossier_csv.proofs.Tables.{answers-same, none-left, some-left, table-none, table-other, table-rows}
use Rattle.dossier_csv.proofs.table.read_table.Goals as goal
use Rattle.dossier_csv.proofs.table.read_table.Goals.{else-branch-via-then-branch+else-is_header}
use Rattle.dossier_csv.proofs.table.read_table.Goals.{else-branch-via-else-branch}

pub returns-then-is_header-clause-value : goal.returns-then-is_header-clause-value
returns-then-is_header-clause-value g c =
    let next = some-left _ _ _ _
    (rw c.if-branch.true at (c.in_ok-next_row.ensures _ c.reader_of-reader.ensures)) in
    answers-same _ _ _ _ (table-rows g.T.TableRow.layout _ next.0 _ next.1 (sym c.if-is_header.ensures))
    (rw c.len-width.ensures at (c.read_rows.ensures.value next.0 next.2))

pub returns-clause-value : goal.returns-clause-value
returns-clause-value g c =
    let next = c.in_ok-next_row.ensures _ c.reader_of-reader.ensures in
    elim c.else-branch.branch [
      | else-branch-via-then-branch+else-is_header w ↦
          let found = some-left _ _ _ _ (rw w.if-branch.true at next) in
          rw c.slot.ensures (table-other g.T.TableRow.layout _ found.0 _ found.1 (sym w.if-is_header.ensures))
      | else-branch-via-else-branch w ↦ rw c.slot.ensures (table-none g.T.TableRow.layout _
          (none-left _ _ _ _ (rw w.if-branch.false at next)))
    ]

pub next_row-requires : goal.next_row-requires
next_row-requires g c = (_, c.reader_of-reader.ensures)

pub read_rows-requires : goal.read_rows-requires
read_rows-requires g c =
    let next = some-left _ _ _ _
    (rw c.if-branch.true at (c.in_ok-next_row.ensures _ c.reader_of-reader.ensures)) in
    (next.0, next.2)

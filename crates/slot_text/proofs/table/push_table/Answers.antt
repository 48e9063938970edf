use Rattle.std.proofs.Common.{flat_map}
use Rattle.report.specs.Words.{row}
use Rattle.report.proofs.Pushing.{cut_off, cut_off_first, pushes_then}
use Rattle.slot_text.proofs.table.push_table.Goals as goal

pub returns-in_err-push_text : goal.returns-in_err-push_text
returns-in_err-push_text g c =
    let rows = flat_map (λ x. row (g.R.WrittenRow.written.fields x)) c.args.rows.now in
    cut_off c.from_residual.result c.from_residual.ensures.0
    (cut_off_first rows (rw c.header.ensures at c.in_err-push_text.ensures))

pub returns : goal.returns
returns g c =
    let rows = flat_map (λ x. row (g.R.WrittenRow.written.fields x)) c.args.rows.now in
    pushes_then c.push_rows.result c.push_rows.new.text rows (rw c.header.ensures at c.in_ok-push_text.ensures)
    c.push_rows.ensures

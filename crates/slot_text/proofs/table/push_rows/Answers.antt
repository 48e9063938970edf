use Rattle.std.proofs.Common.{arith}
use Rattle.report.specs.Words.{row}
use Rattle.report.proofs.Pushing.{cut_off}
use Rattle.report.proofs.PushedItems.{cut_one, pushed_one}
use Rattle.slot_text.proofs.table.push_rows.Goals as goal

pub returns-in_err-push : goal.returns-in_err-push
returns-in_err-push g c =
    cut_off c.from_residual.result c.from_residual.ensures.0
    (cut_one (λ x. row (g.R.WrittenRow.written.fields x)) c.args.rows.now c.loop-row.row-index c.row-item.result
    (omega arith) c.row-item.is c.loop-row.invariant c.in_err-push.ensures)

pub loop-row-preserved : goal.loop-row-preserved
loop-row-preserved g c =
    pushed_one (λ x. row (g.R.WrittenRow.written.fields x)) c.args.rows.now c.loop-row.row-index c.row-item.result
    (omega arith) c.row-item.is c.loop-row.invariant c.in_ok-push.ensures

use Rattle.report.specs.DayText.{lapse_line}
use Rattle.std.proofs.Common.{arith}
use Rattle.report.proofs.Pushing.{cut_item, cut_off, pushed_item}
use Rattle.report.proofs.day.push_lapses.Goals as goal

pub returns-in_err-push_lapse : goal.returns-in_err-push_lapse
returns-in_err-push_lapse c =
    cut_off c.from_residual.result c.from_residual.ensures.0
    (cut_item (lapse_line c.args.dossier.now c.args.start c.args.term) c.args.lapses.now c.loop-lapse.lapse-index _
    (omega arith)
    c.loop-lapse.invariant c.in_err-push_lapse.ensures)

pub loop-lapse-preserved : goal.loop-lapse-preserved
loop-lapse-preserved c =
    pushed_item (lapse_line c.args.dossier.now c.args.start c.args.term) c.args.lapses.now c.loop-lapse.lapse-index _
    (omega arith)
    c.loop-lapse.invariant c.in_ok-push_lapse.ensures

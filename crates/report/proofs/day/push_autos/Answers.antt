use Rattle.report.specs.DayText.{auto_line}
use Rattle.std.proofs.Common.{arith}
use Rattle.report.proofs.Pushing.{cut_item, cut_off, pushed_item}
use Rattle.report.proofs.day.push_autos.Goals as goal

pub returns-in_err-push_auto : goal.returns-in_err-push_auto
returns-in_err-push_auto c =
    cut_off c.from_residual.result c.from_residual.ensures.0
    (cut_item (auto_line c.args.dossier.now) c.args.autos.now c.loop-change.change-index _ (omega arith)
    c.loop-change.invariant c.in_err-push_auto.ensures)

pub loop-change-preserved : goal.loop-change-preserved
loop-change-preserved c =
    pushed_item (auto_line c.args.dossier.now) c.args.autos.now c.loop-change.change-index _ (omega arith)
    c.loop-change.invariant c.in_ok-push_auto.ensures

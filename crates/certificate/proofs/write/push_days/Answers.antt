use Rattle.std.proofs.Common.{arith}
use Rattle.certificate.specs.ChainText.{day_lines}
use Rattle.report.proofs.Pushing.{cut_off}
use Rattle.report.proofs.PushedItems.{cut_one, pushed_one}
use Rattle.certificate.proofs.write.push_days.Goals as goal

pub returns-in_err-push_day : goal.returns-in_err-push_day
returns-in_err-push_day c =
    cut_off c.from_residual.result c.from_residual.ensures.0
    (cut_one (day_lines c.args.dossier.now) c.args.days.now c.loop-day.day-index c.day-item.result (omega arith)
    c.day-item.is c.loop-day.invariant c.in_err-push_day.ensures)

pub loop-day-preserved : goal.loop-day-preserved
loop-day-preserved c =
    pushed_one (day_lines c.args.dossier.now) c.args.days.now c.loop-day.day-index c.day-item.result (omega arith)
    c.day-item.is c.loop-day.invariant c.in_ok-push_day.ensures

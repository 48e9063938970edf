use Rattle.std.proofs.Common.{arith}
use Rattle.report.specs.DayText.{fall_line}
use Rattle.report.proofs.Pushing.{cut_off}
use Rattle.report.proofs.PushedItems.{cut_one, pushed_one}
use Rattle.report.proofs.day.push_falls.Goals as goal

pub returns-in_err-push_fall-clause-all : goal.returns-in_err-push_fall-clause-all
returns-in_err-push_fall-clause-all c =
    cut_off c.from_residual.result c.from_residual.ensures.0
    (cut_one (fall_line c.args.dossier.now) c.args.falls.now c.loop-fall.fall-index c.fall-item.result (omega arith)
    c.fall-item.is c.loop-fall.invariant c.in_err-push_fall.ensures)

pub loop-fall-preserved : goal.loop-fall-preserved
loop-fall-preserved c =
    pushed_one (fall_line c.args.dossier.now) c.args.falls.now c.loop-fall.fall-index c.fall-item.result (omega arith)
    c.fall-item.is c.loop-fall.invariant c.in_ok-push_fall.ensures

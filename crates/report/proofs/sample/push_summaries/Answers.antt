use Rattle.std.proofs.Common.{arith}
use Rattle.report.specs.SampleText.{day_summary}
use Rattle.report.proofs.Pushing.{cut_off}
use Rattle.report.proofs.PushedItems.{cut_one, pushed_one}
use Rattle.report.proofs.sample.push_summaries.Goals as goal

pub returns-in_err-push_summary : goal.returns-in_err-push_summary
returns-in_err-push_summary c =
    cut_off c.from_residual.result c.from_residual.ensures.0
    (cut_one day_summary c.args.days.now c.loop-day.day-index c.day-item.result (omega arith) c.day-item.is
    c.loop-day.invariant c.in_err-push_summary.ensures)

pub loop-day-preserved : goal.loop-day-preserved
loop-day-preserved c =
    pushed_one day_summary c.args.days.now c.loop-day.day-index c.day-item.result (omega arith) c.day-item.is
    c.loop-day.invariant c.in_ok-push_summary.ensures

use Rattle.std.proofs.Common.{flat_map}
use Rattle.report.specs.SampleText.{day_summary, state_summary}
use Rattle.report.proofs.Pushing.{cut_off, cut_off_first, cut_off_next, pushed_then, pushes_then}
use Rattle.report.proofs.sample.push_sample.Goals as goal

pub returns-in_err-push_all : goal.returns-in_err-push_all
returns-in_err-push_all c =
    let days = flat_map day_summary c.args.days.now in
    cut_off c.from_residual.result c.from_residual.ensures.0
    (cut_off_first (state_summary c.args.state.now) (cut_off_first days c.in_err-push_all.ensures))

pub returns-in_err-push_summaries : goal.returns-in_err-push_summaries
returns-in_err-push_summaries c =
    cut_off c.from_residual-in_err-push_summaries.result c.from_residual-in_err-push_summaries.ensures.0
    (cut_off_first (state_summary c.args.state.now)
    (cut_off_next c.in_ok-push_all.ensures c.in_err-push_summaries.ensures))

pub returns : goal.returns
returns c =
    pushes_then c.push_counts.result c.push_counts.new.text (state_summary c.args.state.now)
    (pushed_then c.in_ok-push_all.ensures c.in_ok-push_summaries.ensures) c.push_counts.ensures

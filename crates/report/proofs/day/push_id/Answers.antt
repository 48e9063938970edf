use Rattle.report.proofs.Pushing.{cut_off, cut_off_first, pushes_then}
use Rattle.report.proofs.day.push_id.Goals as goal

pub returns-in_err-push_after : goal.returns-in_err-push_after
returns-in_err-push_after c =
    cut_off c.from_residual.result c.from_residual.ensures.0
    (cut_off_first c.args.end.now c.in_err-push_after.ensures)

pub returns : goal.returns
returns c =
    pushes_then c.push_text.result c.push_text.new.text c.args.end.now c.in_ok-push_after.ensures c.push_text.ensures

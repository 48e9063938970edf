use Rattle.report.proofs.Pushing.{cut_off, cut_off_first, pushes_then}
use Rattle.report.proofs.piece.push_both.Goals as goal

pub returns-in_err-push_text : goal.returns-in_err-push_text
returns-in_err-push_text c =
    cut_off c.from_residual.result c.from_residual.ensures.0
    (cut_off_first c.args.other.now c.in_err-push_text.ensures)

pub returns : goal.returns
returns c =
    pushes_then c.push_text-2.result c.push_text-2.new.text c.args.other.now c.in_ok-push_text.ensures
    c.push_text-2.ensures

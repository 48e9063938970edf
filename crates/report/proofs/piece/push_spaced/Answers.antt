use Rattle.std.proofs.Common.{decimal}
use Rattle.report.proofs.Pushing.{cut_off, cut_off_first, pushes_then}
use Rattle.report.proofs.piece.push_spaced.Goals as goal

pub returns-in_err-push_ascii : goal.returns-in_err-push_ascii
returns-in_err-push_ascii c =
    cut_off c.from_residual.result c.from_residual.ensures.0
    (cut_off_first (decimal c.args.number) c.in_err-push_ascii.ensures)

pub returns : goal.returns
returns c =
    pushes_then c.push_text.result c.push_text.new.text (decimal c.args.number) c.in_ok-push_ascii.ensures
    (rw c.format.ensures.text at c.push_text.ensures)

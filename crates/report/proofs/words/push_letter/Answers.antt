use Rattle.admit_core.specs.Lines.{bound_letter}
use Rattle.report.proofs.Pushing.{cut_off, cut_off_first, pushes_then}
use Rattle.report.proofs.words.push_letter.Goals as goal

pub returns-in_err-push_ascii : goal.returns-in_err-push_ascii
returns-in_err-push_ascii c =
    cut_off c.from_residual.result c.from_residual.ensures.0
    (cut_off_first (bound_letter c.args.bound) c.in_err-push_ascii.ensures)

pub returns : goal.returns
returns c =
    pushes_then c.push_ascii-2.result c.push_ascii-2.new.text (bound_letter c.args.bound) c.in_ok-push_ascii.ensures
    (rw c.letter_of.ensures.letter at c.push_ascii-2.ensures)

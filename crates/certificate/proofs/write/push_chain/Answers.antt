use Rattle.std.proofs.Common.{◌∷◌, [], codes}
use Rattle.report.specs.Words.{line}
use Rattle.report.proofs.Pushing.{cut_off, cut_off_first, pushes_then}
use Rattle.certificate.proofs.write.push_chain.Goals as goal

pub returns-in_err-push_days : goal.returns-in_err-push_days
returns-in_err-push_days c =
    cut_off c.from_residual.result c.from_residual.ensures.0
    (cut_off_first (line (codes "end" ∷ [])) c.in_err-push_days.ensures)

pub returns : goal.returns
returns c =
    pushes_then c.push_text.result c.push_text.new.text (line (codes "end" ∷ [])) c.in_ok-push_days.ensures
    c.push_text.ensures

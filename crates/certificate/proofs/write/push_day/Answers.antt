use Rattle.certificate.specs.ChainText.{passes_lines}
use Rattle.report.proofs.Pushing.{cut_off, cut_off_first, pushes_then}
use Rattle.certificate.proofs.write.push_day.Goals as goal

pub returns-in_err-push_all : goal.returns-in_err-push_all
returns-in_err-push_all c =
    cut_off c.from_residual.result c.from_residual.ensures.0
    (cut_off_first (passes_lines c.args.dossier.now c.args.day.now.passes) c.in_err-push_all.ensures)

pub returns : goal.returns
returns c =
    pushes_then c.push_passes.result c.push_passes.new.text (passes_lines c.args.dossier.now c.args.day.now.passes)
    c.in_ok-push_all.ensures (rw c.as_slice.ensures at c.push_passes.ensures)

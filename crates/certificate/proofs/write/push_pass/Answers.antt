use Rattle.std.proofs.Common.{flat_map}
use Rattle.report.specs.DayText.{fall_line}
use Rattle.report.proofs.Pushing.{cut_off, cut_off_first, pushes_then}
use Rattle.certificate.proofs.write.push_pass.Goals as goal

pub returns-in_err-push_all : goal.returns-in_err-push_all
returns-in_err-push_all c =
    cut_off c.from_residual.result c.from_residual.ensures.0
    (cut_off_first (flat_map (fall_line c.args.dossier.now) c.args.end.now.pass.falls) c.in_err-push_all.ensures)

pub returns : goal.returns
returns c =
    pushes_then c.push_falls.result c.push_falls.new.text
    (flat_map (fall_line c.args.dossier.now) c.args.end.now.pass.falls) c.in_ok-push_all.ensures
    (rw c.as_slice.ensures at c.push_falls.ensures.all)

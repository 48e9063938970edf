use Rattle.std.proofs.Common.{append_assoc}
use Rattle.report.specs.Words.{further}
use Rattle.report.proofs.Pushing.{cut_off, cut_off_as, cut_off_first, pushes_as, pushes_then}
use Rattle.certificate.specs.VerdictText.{kept_id}
use Rattle.certificate.proofs.texts.push_verdict.Goals as goal

pub returns-in_err-push_all : goal.returns-in_err-push_all
returns-in_err-push_all c =
    let end = further 32 (kept_id c.args.dossier.now c.args.reason) in
    cut_off c.from_residual.result c.from_residual.ensures.0
    (cut_off_as (cut_off_first end (rw (c.number.ensures, c.name.ensures) at c.in_err-push_all.ensures))
    (simp append_assoc))

pub returns : goal.returns
returns c =
    let end = further 32 (kept_id c.args.dossier.now c.args.reason) in
    let r = c.push_kept.result in
    let new = c.push_kept.new.text in
    pushes_as r c.args.text.now new (simp append_assoc)
    (pushes_then r new end (rw (c.number.ensures, c.name.ensures) at c.in_ok-push_all.ensures) c.push_kept.ensures)

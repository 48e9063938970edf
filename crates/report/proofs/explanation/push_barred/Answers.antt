use Rattle.std.proofs.Common.{append_assoc}
use Rattle.report.specs.ExplainText.{cause_words}
use Rattle.report.specs.Words.{further}
use Rattle.report.proofs.Pushing.{cut_off, cut_off_as, cut_off_first, pushes_as, pushes_then}
use Rattle.report.proofs.explanation.push_barred.Goals as goal

pub returns-in_err-push_all : goal.returns-in_err-push_all
returns-in_err-push_all c =
    let end = further 32 (cause_words c.args.cause) in
    cut_off c.from_residual.result c.from_residual.ensures.0
    (cut_off_as (cut_off_first end c.in_err-push_all.ensures) (simp append_assoc))

pub returns : goal.returns
returns c =
    let end = further 32 (cause_words c.args.cause) in
    pushes_as c.push_cause.result c.args.text.now c.push_cause.new.text (simp append_assoc)
    (pushes_then c.push_cause.result c.push_cause.new.text end c.in_ok-push_all.ensures c.push_cause.ensures)

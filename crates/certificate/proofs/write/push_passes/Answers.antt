use Rattle.std.proofs.Common.{◌+◌, ap, arith, subst, sym}
use Rattle.certificate.specs.ChainText.{HasFallsOf, pass_lines}
use Rattle.report.proofs.Pushing.{cut_off, cut_off_as, pushed_as}
use Rattle.report.proofs.PushedItems.{cut_numbered, pushed_all_numbered, pushed_numbered}
use Rattle.certificate.proofs.write.push_passes.Goals as goal

pub push_pass-requires : goal.push_pass-requires
push_pass-requires c =
    subst (HasFallsOf c.args.dossier.now) (sym c.index-passes-index.is)
    (c.requires c.loop-index.index c.index-passes-index.result (omega arith))

pub returns-in_err-push_pass : goal.returns-in_err-push_pass
returns-in_err-push_pass c =
    cut_off c.from_residual.result c.from_residual.ensures.0
    (cut_numbered (pass_lines c.args.dossier.now) 1 c.args.passes.now c.loop-index.index (c.loop-index.index + 1)
    c.index-passes-index.result (omega arith) (omega arith) c.loop-index.invariant
    (cut_off_as c.in_err-push_pass.ensures (ap (λ p. pass_lines c.args.dossier.now (c.loop-index.index + 1, p))
    c.index-passes-index.is)))

pub loop-index-preserved : goal.loop-index-preserved
loop-index-preserved c =
    pushed_numbered (pass_lines c.args.dossier.now) 1 c.args.passes.now c.loop-index.index (c.loop-index.index + 1)
    c.index-passes-index.result (omega arith) (omega arith) c.loop-index.invariant
    (pushed_as c.in_ok-push_pass.ensures (ap (λ p. pass_lines c.args.dossier.now (c.loop-index.index + 1, p))
    c.index-passes-index.is))

pub returns : goal.returns
returns c =
    pushed_all_numbered (pass_lines c.args.dossier.now) 1 c.args.passes.now c.loop-index.index (omega arith)
    c.loop-index.invariant

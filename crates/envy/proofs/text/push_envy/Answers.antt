use Rattle.std.proofs.Common.{◌∷◌, [], codes, decimal, length}
use Rattle.report.specs.Words.{line}
use Rattle.report.proofs.Pushing.{cut_off, cut_off_first, pushes_then}
use Rattle.envy.proofs.text.push_envy.Goals as goal

pub returns-in_err-push_blocks : goal.returns-in_err-push_blocks
returns-in_err-push_blocks c =
    cut_off c.from_residual.result c.from_residual.ensures.0
    (cut_off_first (line (codes "blocks" ∷ decimal (length c.args.blocks.now) ∷ [])) c.in_err-push_blocks.ensures.all)

pub returns : goal.returns
returns c =
    pushes_then c.push_all.result c.push_all.new.text
    (line (codes "blocks" ∷ decimal (length c.args.blocks.now) ∷ [])) c.in_ok-push_blocks.ensures.all c.push_all.ensures

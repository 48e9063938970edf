use Rattle.std.proofs.Common.{append_assoc}
use Rattle.envy.specs.Text.{envied_words}
use Rattle.report.specs.Words.{further}
use Rattle.report.proofs.Pushing.{cut_off, cut_off_as, cut_off_first, pushes_as, pushes_then}
use Rattle.envy.proofs.text.push_block.Goals as goal

pub returns-in_err-push_all : goal.returns-in_err-push_all
returns-in_err-push_all c =
    let end = further 32 (envied_words c.args.block.envied) in
    cut_off c.from_residual.result c.from_residual.ensures.0
    (cut_off_as (cut_off_first end (rw c.wish_id.ensures at c.in_err-push_all.ensures)) (simp append_assoc))

pub returns : goal.returns
returns c =
    let end = further 32 (envied_words c.args.block.envied) in
    let r = c.push_envied.result in
    let new = c.push_envied.new.text in
    pushes_as r c.args.text.now new (simp append_assoc)
    (pushes_then r new end (rw c.wish_id.ensures at c.in_ok-push_all.ensures) c.push_envied.ensures)

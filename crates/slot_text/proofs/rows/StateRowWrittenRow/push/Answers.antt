use Rattle.std.proofs.Common.{◌++◌, ◌∷◌, [], append_assoc}
use Rattle.report.proofs.Pushing.{cut_off, cut_off_as, cut_off_first, pushes_as, pushes_then}
use Rattle.slot_text.specs.Texts.{since_word}
use Rattle.slot_text.proofs.rows.StateRowWrittenRow.push.Goals as goal

pub returns-in_err-push_all : goal.returns-in_err-push_all
returns-in_err-push_all c =
    let end = since_word c.args.self.now.since ++ 10 ∷ [] in
    cut_off c.from_residual.result c.from_residual.ensures.0
    (cut_off_as (cut_off_first end c.in_err-push_all.ensures) (simp append_assoc))

pub returns : goal.returns
returns c =
    let end = since_word c.args.self.now.since ++ 10 ∷ [] in
    let r = c.push_since.result in
    let new = c.push_since.new.text in
    pushes_as r c.args.text.now new (simp append_assoc)
    (pushes_then r new end c.in_ok-push_all.ensures c.push_since.ensures)

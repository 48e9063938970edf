use Rattle.std.proofs.Common.{append_assoc, decimal, map}
use Rattle.report.specs.Ids.{wish_id}
use Rattle.report.specs.Words.{further}
use Rattle.report.proofs.Pushing.{cut_off, cut_off_as, cut_off_first, pushes_as, pushes_then}
use Rattle.report.proofs.day.push_fall.Goals as goal

pub returns-in_err-push_all : goal.returns-in_err-push_all
returns-in_err-push_all c =
    let names = further 32 (map (λ w. decimal (wish_id c.args.dossier.now w)) c.args.fall.now.wishes) in
    cut_off c.from_residual.result c.from_residual.ensures.0
    (cut_off_as (cut_off_first names (rw c.school_id.ensures at c.in_err-push_all.ensures)) (simp append_assoc))

pub returns : goal.returns
returns c =
    let names = further 32 (map (λ w. decimal (wish_id c.args.dossier.now w)) c.args.fall.now.wishes) in
    let r = c.push_wishes.result in
    let new = c.push_wishes.new.text in
    pushes_as r c.args.text.now new (simp append_assoc)
    (pushes_then r new names (rw c.school_id.ensures at c.in_ok-push_all.ensures)
    (rw c.as_slice.ensures at c.push_wishes.ensures))

use Rattle.std.proofs.Common.{◌∷◌, ◌++◌}
use Rattle.slot_text.specs.Texts.{two_or_more}
use Rattle.report.proofs.Pushing.{cut_off, cut_off_first, cut_off_next, pushes_then}
use Rattle.slot_text.proofs.rows.push_date.Goals as goal

pub returns-in_err-push_after : goal.returns-in_err-push_after
returns-in_err-push_after c =
    let day = 45 ∷ two_or_more c.args.date.day in
    let month = 45 ∷ two_or_more c.args.date.month in
    cut_off c.from_residual.result c.from_residual.ensures.0
    (cut_off_first (month ++ day) c.in_err-push_after.ensures)

pub returns-in_err-push_dashed : goal.returns-in_err-push_dashed
returns-in_err-push_dashed c =
    cut_off c.from_residual-in_err-push_dashed.result c.from_residual-in_err-push_dashed.ensures.0
    (cut_off_next c.in_ok-push_after.ensures
    (cut_off_first (45 ∷ two_or_more c.args.date.day) c.in_err-push_dashed.ensures))

pub returns : goal.returns
returns c =
    let day = 45 ∷ two_or_more c.args.date.day in
    let month = 45 ∷ two_or_more c.args.date.month in
    let r = c.push_dashed-2.result in
    let new = c.push_dashed-2.new.text in
    pushes_then r new (month ++ day) c.in_ok-push_after.ensures
    (pushes_then r new day c.in_ok-push_dashed.ensures c.push_dashed-2.ensures)

use Rattle.std.proofs.Common.{flat_map}
use Rattle.report.specs.Words.{row}
use Rattle.report.proofs.Pushing.{cut_off, cut_off_first, pushes_then}
use Rattle.slot_text.specs.Texts as Texts
use Rattle.slot_text.proofs.slots.push_plain_state.Goals as goal

pub returns-in_err-push_text : goal.returns-in_err-push_text
returns-in_err-push_text c =
    let rows = flat_map (λ x. row (Texts.plain_state.fields x)) c.args.rows.now in
    cut_off c.from_residual.result c.from_residual.ensures.0 (cut_off_first rows c.in_err-push_text.ensures)

pub returns : goal.returns
returns c =
    let rows = flat_map (λ x. row (Texts.plain_state.fields x)) c.args.rows.now in
    pushes_then c.push_plain_rows.result c.push_plain_rows.new.text rows c.in_ok-push_text.ensures
    c.push_plain_rows.ensures

use Rattle.std.proofs.Common.{None, arith}
use Rattle.admit_core.specs.declared.state.Status.TheVariants.{Waiting}
use Rattle.admit_core.specs.declared.tables.StateRow.{StateRow}
use Rattle.report.specs.Words.{row}
use Rattle.report.proofs.Pushing.{cut_item, cut_off, pushed_item}
use Rattle.slot_text.specs.Texts as Texts
use Rattle.slot_text.proofs.slots.push_plain_rows.Goals as goal

abbrev none : StateRow
none = record { wish = 0; status = Waiting; since = None }

pub returns-in_err-push_plain : goal.returns-in_err-push_plain
returns-in_err-push_plain c =
    cut_off c.from_residual.result c.from_residual.ensures.0
    (cut_item (λ x. row (Texts.plain_state.fields x)) c.args.rows.now c.loop-state.state-index none (omega arith)
    c.loop-state.invariant c.in_err-push_plain.ensures)

pub loop-state-preserved : goal.loop-state-preserved
loop-state-preserved c =
    pushed_item (λ x. row (Texts.plain_state.fields x)) c.args.rows.now c.loop-state.state-index none (omega arith)
    c.loop-state.invariant c.in_ok-push_plain.ensures

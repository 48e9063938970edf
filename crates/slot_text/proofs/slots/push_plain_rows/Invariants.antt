use Rattle.std.proofs.Common.{flat_map, take}
use Rattle.report.specs.Pushes.{IsPushed}
use Rattle.report.specs.Words.{row}
use Rattle.slot_text.specs.Texts as Texts
use Rattle.slot_text.proofs.slots.push_plain_rows.Given as goal

abbrev pub invariant-loop-state : goal.invariant-loop-state
invariant-loop-state l =
    IsPushed l.fn.text l.text (flat_map (λ x. row (Texts.plain_state.fields x)) (take l.state-index l.rows))

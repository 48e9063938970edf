use Rattle.std.proofs.Common.{flat_map, take}
use Rattle.report.specs.Pushes.{IsPushed}
use Rattle.report.specs.Words.{row}
use Rattle.slot_text.proofs.table.push_rows.Given as goal

abbrev pub invariant-loop-row : goal.invariant-loop-row
invariant-loop-row g l =
    IsPushed l.fn.text l.text (flat_map (λ x. row (g.R.WrittenRow.written.fields x)) (take l.row-index l.rows))

use Rattle.std.proofs.Common.{◌≡◌, map, take}
use Rattle.next_morning.specs.RowsBack.{answer_row}
use Rattle.next_morning.proofs.back.answer_rows.Given as goal

abbrev pub invariant-loop-answer : goal.invariant-loop-answer
invariant-loop-answer l = l.rows.items ≡ map (answer_row l.dossier) (take l.answer-index l.answers)

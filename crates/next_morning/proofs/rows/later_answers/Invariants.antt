use Rattle.std.proofs.Common.{◌≡◌, take}
use Rattle.next_morning.specs.Morning.{later_answers}
use Rattle.next_morning.proofs.rows.later_answers.Given as goal

abbrev pub invariant-loop-answer : goal.invariant-loop-answer
invariant-loop-answer l = l.rows.items ≡ later_answers l.day (take l.answer-index l.answers)

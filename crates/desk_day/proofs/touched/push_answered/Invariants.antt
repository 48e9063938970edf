use Rattle.std.proofs.Common.{◌≡◌, ◌++◌, flat_map, take}
use Rattle.desk_day.specs.Touched.{wishes_of_answer}
use Rattle.desk_day.proofs.touched.push_answered.Given as goal

abbrev pub invariant-loop-answer : goal.invariant-loop-answer
invariant-loop-answer l = l.places.items ≡ l.fn.places.items ++ flat_map (wishes_of_answer l.state.dossier)
    (take l.answer-index l.answers)

use Rattle.std.proofs.Common.{◌≡◌, map, take}
use Rattle.sample_gen.specs.Samples.{rank_row}
use Rattle.sample_gen.proofs.slots.rankings.Given as goal

abbrev pub invariant-loop-choice : goal.invariant-loop-choice
invariant-loop-choice l = l.rows.items ≡ map rank_row (take l.choice-index l.choices)

use Rattle.std.proofs.Common.{◌≡◌, take}
use Rattle.std.specs.List.{flat_map}
use Rattle.sample_gen.specs.Samples.{wish_rows}
use Rattle.sample_gen.proofs.slots.wishes.Given as goal

abbrev pub invariant-loop-choice : goal.invariant-loop-choice
invariant-loop-choice l = l.rows.items ≡ flat_map wish_rows (take l.choice-index l.choices)

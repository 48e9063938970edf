use Rattle.std.proofs.Common.{◌≡◌, map, take}
use Rattle.std.specs.List.{filter}
use Rattle.sample_gen.specs.Samples.{board_row, has_board_row}
use Rattle.sample_gen.proofs.slots.boarding.Given as goal

abbrev pub invariant-loop-choice : goal.invariant-loop-choice
invariant-loop-choice l = l.rows.items ≡ map board_row (filter (has_board_row l.programmes)
    (take l.choice-index l.choices))

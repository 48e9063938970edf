use Rattle.std.proofs.Common.{◌≡◌, ◌-◌}
use Rattle.std.specs.List.{flat_map, range_with_len}
use Rattle.sample_gen.specs.Choices.{own_choices}
use Rattle.sample_gen.proofs.choices.choices_of.Given as goal

abbrev pub invariant-loop-candidate : goal.invariant-loop-candidate
invariant-loop-candidate l = l.choices.items ≡ flat_map (own_choices l.programmes) (range_with_len 1 (l.candidate - 1))

use Rattle.std.proofs.Common.{◌≡◌, ◌++◌, map}
use Rattle.std.specs.List.{range_with_len}
use Rattle.sample_gen.specs.Choices.{choice_at}
use Rattle.sample_gen.proofs.choices.add_choices.Given as goal

abbrev pub invariant-loop-place : goal.invariant-loop-place
invariant-loop-place l = l.choices.items ≡ l.fn.choices.items ++ map (choice_at l.programmes l.candidate)
    (range_with_len 0 l.place)

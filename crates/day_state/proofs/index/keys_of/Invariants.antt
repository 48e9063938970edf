use Rattle.std.proofs.Common.{◌≡◌, map}
use Rattle.std.specs.List.{range_with_len}
use Rattle.day_state.specs.Kept.{key_at}
use Rattle.day_state.proofs.index.keys_of.Given as goal

abbrev pub invariant-loop-place : goal.invariant-loop-place
invariant-loop-place l = l.keys.items ≡ map (key_at l.wishes) (range_with_len 0 l.place)

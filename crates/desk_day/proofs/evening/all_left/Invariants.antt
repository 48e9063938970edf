use Rattle.std.proofs.Common.{◌≡◌, map}
use Rattle.std.specs.List.{range_with_len}
use Rattle.desk_day.specs.Evening.{left_at}
use Rattle.desk_day.proofs.evening.all_left.Given as goal

abbrev pub invariant-loop-place : goal.invariant-loop-place
invariant-loop-place l = l.left.items ≡ map (left_at l.state l.sites) (range_with_len 0 l.place)

use Rattle.std.proofs.Common.{◌≡◌, ◌≤◌, filter, length}
use Rattle.std.specs.Prelude.{vec_capacity}
use Rattle.std.specs.List.{range_with_len}
use Rattle.markets.specs.Fillings.{is_over}
use Rattle.markets.proofs.filling.Filling.build.Given as goal

abbrev pub invariant-loop-programme : goal.invariant-loop-programme
invariant-loop-programme l =
    (l.overfilled.items ≡ filter (is_over l.seats.items l.counts.items) (range_with_len 0 l.programme)) ×
    (length l.counts.items ≤ vec_capacity l.overfilled)

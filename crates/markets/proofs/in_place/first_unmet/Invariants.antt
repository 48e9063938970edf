use Rattle.std.proofs.Common.{ℕ, ◌<◌, ◌≡◌, false, not, []}
use Rattle.std.specs.Prelude.{slice_index, slice_index_or}
use Rattle.markets.specs.Meeting.{is_met}
use Rattle.markets.proofs.in_place.first_unmet.Given as goal

abbrev pub invariant-loop-place : goal.invariant-loop-place
invariant-loop-place l =
    (p : ℕ) → p < l.place → not (is_met (slice_index_or l.orders p []) (slice_index l.notes p)) ≡ false

-- Which places of a system are overfilled, and by which rank.
use Rattle.std.specs.Prelude.{ℕ, List, length, filter, Option, slice_get, slice_index}
use Rattle.std.specs.List.{range_with_len}
use Rattle.admit_core.specs.Falls.{FallingSystem, is_overfilled}

-- the least demanded rank of a place that finds no bed, if there is one
abbrev pub rank_over : FallingSystem → List ℕ → ℕ → Option ℕ
rank_over sys bars i = slice_get (sys.ranks bars i) (slice_index sys.free i)

-- all overfilled places, from the least
abbrev pub all_overfilled : FallingSystem → List ℕ → List ℕ
all_overfilled sys bars = filter (is_overfilled sys bars) (range_with_len 0 (length sys.ceilings))

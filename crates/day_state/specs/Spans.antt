-- Where in a list a part of it begins and ends.
use Rattle.std.specs.Prelude.{ℕ, ◌≤◌, List, slice_range}
use Rattle.day_state.specs.declared.spans.Span.{Span}

-- a span lies in a list of this length
pub record IsWithin (n : ℕ) (span : Span) : Type 0 where
  pub rises : span.from ≤ span.to
  pub within : span.to ≤ n

-- the part of a list that a span marks
abbrev pub part_of : List ℕ → Span → List ℕ
part_of list span = slice_range list span.from span.to

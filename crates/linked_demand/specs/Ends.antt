-- Parts of a list that follow one another, by their bounds.
use Rattle.std.specs.Prelude.{ℕ, List, [], ◌∷◌}
use Rattle.day_state.specs.declared.spans.Span.{Span}

-- each begins where the one before it ends, and the first one at a place
unfoldable pub spans_from : ℕ → List ℕ → List Span
spans_from from [] = []
spans_from from (end ∷ ends) = record { from = from; to = end } ∷ spans_from end ends

-- where the last one ends
unfoldable pub last_end : ℕ → List ℕ → ℕ
last_end from [] = from
last_end from (end ∷ ends) = last_end end ends

-- those within bounds: where the first one begins, and where each ends
unfoldable pub spans_in : List ℕ → List Span
spans_in [] = []
spans_in (from ∷ ends) = spans_from from ends

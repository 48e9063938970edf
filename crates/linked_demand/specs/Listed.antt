-- Lists that are kept beside what is known of each place: the places that are marked, and those
-- that have an answer.
use Rattle.std.specs.Prelude.{◌≡◌, ℕ, ◌≤◌, Bool, true, false, List, [], ◌∷◌, length, reverse, replicate, filter, Option}
use Rattle.std.specs.Prelude.{None, is_some, slice_index_or, slice_set}
use Rattle.std.specs.List.{range_with_len}

-- places whose marks are taken away one after another: each was marked, and in the end no mark is
-- left
abbrev pub AreMarked : List ℕ → List Bool → Type 0
AreMarked [] flags = flags ≡ replicate (length flags) false
AreMarked (h ∷ hs) flags =
    (slice_index_or flags h false ≡ true) × AreMarked hs (slice_set flags h false)

-- the marked places, of which the last one goes first, and room for all places
pub record MarksAreListed (flags : List Bool) (places : List ℕ) (capacity : ℕ) : Type 0 where
  pub listed : AreMarked (reverse places) flags
  pub room : length flags ≤ capacity

-- the places that have an answer, from the least
abbrev pub answered : {X : Type 0} → List (Option X) → List ℕ
answered answers =
    filter (λ h. is_some (slice_index_or answers h None)) (range_with_len 0 (length answers))

-- the places that have an answer, and room for all places
pub record AnswersAreListed (answers : List (Option ℕ)) (places : List ℕ)
    (capacity : ℕ) : Type 0 where
  pub listed : places ≡ answered answers
  pub room : length answers ≤ capacity

-- The open wishes that are proposed, by the claims at the fronts of the lines.
use Rattle.std.specs.Prelude.{◌≡◌, ℕ, ◌≤◌, ◌<◌, Bool, false, ◌&&◌, ◌||◌, List, [], length, take, slice_index}
use Rattle.std.specs.Prelude.{slice_index_or}
use Rattle.std.specs.List.{list_any, range_with_len}
use Rattle.admit_core.specs.Lists.{is_among}

-- the wish at a place is open and needs no seat, by flags
abbrev pub exempt_open : List Bool → List Bool → ℕ → Bool
exempt_open opens exempt k = slice_index_or opens k false && slice_index_or exempt k false

-- it is open, and in one of some claims
abbrev pub claimed_open : List Bool → List (List ℕ) → ℕ → Bool
claimed_open opens claims k = list_any (is_among k) claims && slice_index_or opens k false

-- the claims of a line that are reached
abbrev pub front_of : List (List (List ℕ)) → List ℕ → ℕ → List (List ℕ)
front_of lines reached p = take (slice_index reached p) (slice_index_or lines p [])

-- it is open, and in a claim that is reached in one of the first so many lines
abbrev pub reached_open : List Bool → List (List (List ℕ)) → List ℕ → ℕ → ℕ → Bool
reached_open opens lines reached n k =
    list_any (λ p. list_any (is_among k) (front_of lines reached p)) (range_with_len 0 n)
    && slice_index_or opens k false

-- a list has the numbers that it had, and those that pass a test
abbrev pub ListsAlso : (ℕ → Bool) → List ℕ → List ℕ → Type 0
ListsAlso test old new = (k : ℕ) → is_among k new ≡ (is_among k old || test k)

-- in each line no more claims are reached than there are
pub record AreFronts (lines : List (List (List ℕ))) (reached : List ℕ) : Type 0 where
  pub one_each : length reached ≡ length lines
  pub within : (p : ℕ) → p < length lines
      → slice_index reached p ≤ length (slice_index_or lines p [])

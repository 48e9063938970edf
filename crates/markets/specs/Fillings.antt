-- How many candidates programmes have, and which have more than their seats.
use Rattle.std.specs.Prelude.{◌≡◌, ℕ, ◌+◌, ◌≤◌, Bool, List, length, filter, nat_lt, slice_index, slice_set, Option}
use Rattle.std.specs.Prelude.{Some, None}
use Rattle.std.specs.List.{range_with_len}

-- the seats of each programme, and its candidates
pub record Fill : Type 0 where
  pub seats : List ℕ
  pub counts : List ℕ

abbrev pub is_over : List ℕ → List ℕ → ℕ → Bool
is_over seats counts p = nat_lt (slice_index seats p) (slice_index counts p)

-- the programmes that have more than their seats, from the least
abbrev pub overfilled : Fill → List ℕ
overfilled f = filter (is_over f.seats f.counts) (range_with_len 0 (length f.counts))

-- they are listed, with room for all
pub record AreListed (f : Fill) (places : List ℕ) (room_for : ℕ) : Type 0 where
  pub listed : places ≡ overfilled f
  pub room : length f.counts ≤ room_for

-- the counts with one more where a place is
abbrev pub counted_in : List ℕ → Option ℕ → List ℕ
counted_in counts None = counts
counted_in counts (Some p) = slice_set counts p (slice_index counts p + 1)

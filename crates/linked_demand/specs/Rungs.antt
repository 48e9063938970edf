-- The ranks of a row that are known, which of them have a bed, and how both are kept along the row.
use Rattle.std.specs.Prelude.{◌≡◌, ℕ, zero, suc, ◌≤◌, ◌<◌, nat_lt, ◌⊎◌, Bool, true, false, List, [], ◌∷◌, ◌++◌}
use Rattle.std.specs.Prelude.{length, map, filter, option_map, unwrap_or, if◌then◌else◌, slice_get, slice_index_or}
use Rattle.std.specs.List.Sorted.{IsNonDecreasingBy}
use Rattle.linked_demand.specs.declared.rows.RowWish.{RowWish}

-- a rank of a row, and whether it is demanded and has a bed
pub record Rung : Type 0 where
  pub rank : ℕ
  pub housed : Bool

-- the ranks that have a bed
abbrev pub housed_in : List Rung → List ℕ
housed_in xs = map (λ x. x.rank) (filter (λ x. x.housed) xs)

-- the rank at a place of a row, or 0
abbrev pub rank_in : List RowWish → ℕ → ℕ
rank_in row k = unwrap_or (option_map (λ x. x.rank) (slice_get row k)) 0

-- and at the place before it
abbrev pub rank_before : List RowWish → ℕ → ℕ
rank_before row zero = 0
rank_before row (suc k) = rank_in row k

-- the rank at a place is above the one before
abbrev pub is_first : List RowWish → ℕ → Bool
is_first row k = nat_lt (rank_before row k) (rank_in row k)

-- the ranks of the first places of a row, each with the flag of its first place
abbrev pub rungs_to : List RowWish → List Bool → ℕ → List Rung
rungs_to row flags zero = []
rungs_to row flags (suc k) =
    if is_first row k
    then rungs_to row flags k
    ++ record { rank = rank_in row k; housed = slice_index_or flags k false } ∷ []
    else rungs_to row flags k

-- a row, how many of its first places are known, and a flag for each place
pub record BedRow : Type 0 where
  pub row : List RowWish
  pub known : ℕ
  pub flags : List Bool

abbrev pub rungs_of : BedRow → List Rung
rungs_of b = rungs_to b.row b.flags b.known

-- flags are set at known places alone, at the first one of a rank, and so many ranks have a bed
pub record AreBeds (b : BedRow) (count : ℕ) : Type 0 where
  pub rises : IsNonDecreasingBy (λ x. x.rank) b.row
  pub within : b.known ≤ length b.row
  pub one_each : length b.flags ≡ length b.row
  pub known : (k : ℕ) → slice_index_or b.flags k false ≡ true → k < b.known
  pub first : (k : ℕ) → slice_index_or b.flags k false ≡ true → is_first b.row k ≡ true
  pub count_is : count ≡ length (housed_in (rungs_of b))

-- the first known place of a rank
pub record IsFirstOf (b : BedRow) (rank k : ℕ) : Type 0 where
  pub within : k < b.known
  pub first : is_first b.row k ≡ true
  pub rank_is : rank_in b.row k ≡ rank

-- the last place is known no more, of which no rank had a bed
pub record GoesBare (old new : List Rung) : Type 0 where
  pub rest : List Rung
  pub whole : old ≡ new ++ rest
  pub one : (rest ≡ []) ⊎ ((r : ℕ) × (rest ≡ record { rank = r; housed = false } ∷ []))

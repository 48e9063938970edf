-- Flags that are kept as the bits of words.
use Rattle.std.specs.Prelude.{ℕ, ◌≡◌, ◌≤◌, ◌<◌, ◌/◌, ◌%◌, Bool, true, false, List, Option, Some, None, map}
use Rattle.std.specs.Prelude.{slice_index, slice_index_or, ◌==◌}
use Rattle.std.specs.Int.{bit_at}
use Rattle.std.specs.List.{range_with_len}

-- the flag at a place: a bit of a word of 64, counted from the least
abbrev pub flag_at : List ℕ → ℕ → Bool
flag_at words k = bit_at (slice_index words (k / 64)) (k % 64) == 1

-- so many flags, by place
abbrev pub flags_of : List ℕ → ℕ → List Bool
flags_of words count = map (flag_at words) (range_with_len 0 count)

-- a flag is set, and none before it, from a place on
pub record IsFirstSet (flags : List Bool) (from found : ℕ) : Type 0 where
  pub behind : from ≤ found
  pub is_set : slice_index_or flags found false ≡ true
  pub before : (k : ℕ) → from ≤ k → k < found → slice_index_or flags k false ≡ false

-- the first flag that is set from a place on, where one is
abbrev pub IsNextSet : List Bool → ℕ → Option ℕ → Type 0
IsNextSet flags from None = (k : ℕ) → from ≤ k → slice_index_or flags k false ≡ false
IsNextSet flags from (Some found) = IsFirstSet flags from found

-- a bit is set from that of a place on, and none before it, by the places of a word's flags
pub record IsFirstBit (word place found : ℕ) : Type 0 where
  pub behind : place ≤ found
  pub same_word : found / 64 ≡ place / 64
  pub is_set : bit_at word (found % 64) ≡ 1
  pub before : (k : ℕ) → place ≤ k → k < found → bit_at word (k % 64) ≡ 0

-- the first such bit, where one is
abbrev pub IsNextBit : ℕ → ℕ → Option ℕ → Type 0
IsNextBit word place None = (k : ℕ) → place ≤ k → k / 64 ≡ place / 64 → bit_at word (k % 64) ≡ 0
IsNextBit word place (Some found) = IsFirstBit word place found

-- A picker that refuses one of its picks, by the pick's number from 1.
use Rattle.std.specs.Prelude.{◌≡◌, ◌⊎◌, ℕ, ◌+◌, ◌-◌, ◌^◌, min, Result, IsErr, OnErr}

-- the pick of this number is refused; any other only where the list of what was told is full
pub record RefusesPick {T E : Type 0} (picks at : ℕ) (full : Type 0) (result : Result T E)
    : Type 0 where
  pub tired : picks + 1 ≡ at → IsErr result
  pub rested : OnErr result ((picks + 1 ≡ at) ⊎ full)

-- one pick more is counted, up to the greatest `u64`; the number that is refused stays
pub record CountsPick (picks picks_after at at_after : ℕ) : Type 0 where
  pub one_more : picks_after ≡ min (picks + 1) (2 ^ 64 - 1)
  pub same_number : at_after ≡ at

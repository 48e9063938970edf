-- Stamps on numbers below a count, by which one walk finds a list that has a number twice.
use Rattle.std.specs.Prelude.{◌≡◌, ℕ, ◌≤◌, ◌<◌, List, length, nat_eq, slice_index}
use Rattle.admit_core.specs.Lists.{is_among}

-- every stamp is older than this one
abbrev pub AreOlder : ℕ → List ℕ → Type 0
AreOlder stamp stamps = (q : ℕ) → q < length stamps → slice_index stamps q < stamp

-- no stamp is newer than this one
abbrev pub AreUpTo : ℕ → List ℕ → Type 0
AreUpTo stamp stamps = (q : ℕ) → q < length stamps → slice_index stamps q ≤ stamp

-- the numbers that bear this stamp are those of a list
abbrev pub BearStamp : ℕ → List ℕ → List ℕ → Type 0
BearStamp stamp ns stamps =
    (q : ℕ) → q < length stamps → nat_eq (slice_index stamps q) stamp ≡ is_among q ns

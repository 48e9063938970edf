-- Bars that fall until no place is overfilled.
use Rattle.std.specs.Prelude.{◌≡◌, ℕ, ◌+◌, ◌-◌, ◌≤◌, ◌<◌, Bool, not, ◌&&◌, List, [], ◌∷◌, map, length, take, nat_lt}
use Rattle.std.specs.Prelude.{slice_index, slice_set, Contains, IsTrue, ⊤}
use Rattle.std.specs.List.{list_all, range_with_len}
use Rattle.std.specs.List.Sorted.{IsStrictlyIncreasing}
use Rattle.admit_core.specs.declared.records.Fall.{Fall}

-- a system of bars: for each place a ceiling and the free beds, and for all bars and a place the
-- demanded ranks, from the least, with a name for each
pub record FallingSystem : Type 0 where
  pub ceilings : List ℕ
  pub free : List ℕ
  pub ranks : List ℕ → ℕ → List ℕ
  pub name : List ℕ → ℕ → ℕ → ℕ

-- as many bars, and none above the other's; past the end both are 0
pub record IsAtMost (lower upper : List ℕ) : Type 0 where
  pub as_many : length lower ≡ length upper
  pub each : (i : ℕ) → slice_index lower i ≤ slice_index upper i

-- what every system keeps, for the bars that are at most its ceilings
pub record IsLawful (sys : FallingSystem) : Type 0 where
  pub one_free_each : length sys.free ≡ length sys.ceilings
  -- the ranks are a set, from the least
  pub ascending : (bars : List ℕ) (i : ℕ) → IsAtMost bars sys.ceilings → i < length bars
      → IsStrictlyIncreasing (sys.ranks bars i)
  -- ranks stand below bars: each is from 1 to the bar
  pub from_one : (bars : List ℕ) (i r : ℕ) → IsAtMost bars sys.ceilings → i < length bars
      → Contains (sys.ranks bars i) r → 1 ≤ r
  pub to_bar : (bars : List ℕ) (i r : ℕ) → IsAtMost bars sys.ceilings → i < length bars
      → Contains (sys.ranks bars i) r → r ≤ slice_index bars i
  -- ranks stay demanded: one that is demanded under higher bars, and stands below the lower bar, is
  -- demanded under the lower bars
  pub stay_demanded :
      (lower upper : List ℕ) (i r : ℕ)
      → IsAtMost lower upper
      → IsAtMost upper sys.ceilings
      → i < length lower
      → Contains (sys.ranks upper i) r
      → r ≤ slice_index lower i
      → Contains (sys.ranks lower i) r

-- bars fit where they are at most the ceilings and no place has more demanded ranks than free beds
pub record Fits (sys : FallingSystem) (bars : List ℕ) : Type 0 where
  pub under_ceilings : IsAtMost bars sys.ceilings
  pub room : (i : ℕ) → i < length sys.ceilings → length (sys.ranks bars i) ≤ slice_index sys.free i

-- they are the greatest where they fit and every vector that fits is at most these
pub record IsGreatest (sys : FallingSystem) (bars : List ℕ) : Type 0 where
  pub fits : Fits sys bars
  pub greatest : (others : List ℕ) → Fits sys others → IsAtMost others bars

-- a place is overfilled where more ranks are demanded than beds are free
abbrev pub is_overfilled : FallingSystem → List ℕ → ℕ → Bool
is_overfilled sys bars i =
    nat_lt i (length sys.ceilings) && nat_lt (slice_index sys.free i) (length (sys.ranks bars i))

-- no place is overfilled
abbrev pub is_settled : FallingSystem → List ℕ → Bool
is_settled sys bars =
    list_all (λ i. not (is_overfilled sys bars i)) (range_with_len 0 (length sys.ceilings))

-- the ranks of an overfilled place up to the first that has no bed
abbrev pub ranks_up_to_over : FallingSystem → List ℕ → ℕ → List ℕ
ranks_up_to_over sys bars i = take (slice_index sys.free i + 1) (sys.ranks bars i)

-- the fall of an overfilled place: below the first rank that has no bed
abbrev pub fall_of : FallingSystem → List ℕ → ℕ → Fall
fall_of sys bars i =
    record {
      school = i;
      from = slice_index bars i;
      to = slice_index (sys.ranks bars i) (slice_index sys.free i) - 1;
      wishes = map (sys.name bars i) (ranks_up_to_over sys bars i);
    }

-- the bars after a fall
abbrev pub fallen : List ℕ → Fall → List ℕ
fallen bars f = slice_set bars f.school f.to

abbrev pub bars_after : List ℕ → List Fall → List ℕ
bars_after bars [] = bars
bars_after bars (f ∷ fs) = bars_after (fallen bars f) fs

-- from these bars on each fall is that of an overfilled place
abbrev pub AreFalls : FallingSystem → List ℕ → List Fall → Type 0
AreFalls sys bars [] = ⊤
AreFalls sys bars (f ∷ fs) =
    IsTrue (is_overfilled sys bars f.school) × (f ≡ fall_of sys bars f.school)
    × AreFalls sys (fallen bars f) fs

-- a run of falls starts at the ceilings, and ends where no place is overfilled
pub record IsRunOfFalls (sys : FallingSystem) (falls : List Fall) : Type 0 where
  pub are_falls : AreFalls sys sys.ceilings falls
  pub settled : IsTrue (is_settled sys (bars_after sys.ceilings falls))

-- the falls that a list of picked places makes
abbrev pub falls_by : FallingSystem → List ℕ → List ℕ → List Fall
falls_by sys bars [] = []
falls_by sys bars (i ∷ picks) =
    fall_of sys bars i ∷ falls_by sys (fallen bars (fall_of sys bars i)) picks

-- the picks lead a system where their falls are a run
abbrev pub Leads : FallingSystem → List ℕ → Type 0
Leads sys picks = IsRunOfFalls sys (falls_by sys sys.ceilings picks)

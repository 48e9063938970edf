-- The wishes of each bundle of two wishes or more, by the bundle's number.
use Rattle.std.specs.Prelude.{◌≡◌, ℕ, ◌+◌, ◌≤◌, ◌<◌, ◌==◌, ◌&&◌, Bool, false, List, [], length, map}
use Rattle.std.specs.Prelude.{slice_index_or, slice_range}
use Rattle.std.specs.List.{list_any, range_with_len}
use Rattle.admit_core.specs.Lists.{is_among}
use Rattle.admit_core.specs.State.{State, is_waiting}
use Rattle.day_state.specs.declared.numbers.BundleNumber.{BundleNumber}
use Rattle.day_state.specs.declared.numbers.BundleNumber.TheVariants.{NoSite, Alone, Shared}
use Rattle.day_state.specs.declared.numbers.SharedWish.{SharedWish}
use Rattle.day_state.specs.Bundles.{AreEntriesOf, AreStarts, numbers_with}
use Rattle.day_state.specs.Kept.{has_seat_there}

-- where the wishes of a bundle begin among so many: behind all of them, past the last bundle
abbrev pub begin_in : ℕ → List ℕ → ℕ → ℕ
begin_in count begins n = slice_index_or begins n count

-- the wishes of a bundle
abbrev pub members_in : List ℕ → List ℕ → ℕ → List ℕ
members_in wishes begins n =
    slice_range wishes (begin_in (length wishes) begins n) (begin_in (length wishes) begins (n + 1))

-- the wishes of each bundle, by its number
abbrev pub members_by : List ℕ → List ℕ → List (List ℕ)
members_by wishes begins = map (members_in wishes begins) (range_with_len 0 (length begins))

-- the wishes of a bundle, and none where there is no such bundle
abbrev pub members_at : List (List ℕ) → ℕ → List ℕ
members_at members n = slice_index_or members n []

-- none begins behind the next one, nor behind all wishes
pub record BeginsRise (count : ℕ) (begins : List ℕ) : Type 0 where
  pub rise : (n : ℕ) → begin_in count begins n ≤ begin_in count begins (n + 1)
  pub within : (n : ℕ) → begin_in count begins n ≤ count

-- before the place of a number stand entries with lesser numbers, and none from it on
pub record AreBegins (entries : List SharedWish) (begins : List ℕ) : Type 0 where
  pub within : (n : ℕ) → begin_in (length entries) begins n ≤ length entries
  pub before : (n i : ℕ) (d : SharedWish) → i < begin_in (length entries) begins n
      → (slice_index_or entries i d).number < n
  pub behind : (n i : ℕ) (d : SharedWish) → begin_in (length entries) begins n ≤ i → i < length entries
      → n ≤ (slice_index_or entries i d).number

-- the wishes of each number are those of its entries
abbrev pub AreMembers : List SharedWish → List (List ℕ) → Type 0
AreMembers entries members =
    (n k : ℕ) → is_among k (members_at members n) ≡ list_any (λ e. (e.wish == k) && (e.number == n)) entries

-- a bundle has this number
abbrev pub has_number : ℕ → BundleNumber → Bool
has_number n NoSite = false
has_number n Alone = false
has_number n (Shared m) = m == n

-- the starts and the members are those of the entries, and the entries those of the numbers
pub record AreNumbers (sited several : List Bool) (entries : List SharedWish) (starts : List ℕ)
    (members : List (List ℕ)) : Type 0 where
  pub starts_are : AreStarts entries starts
  pub members_are : AreMembers entries members
  pub entries_are : AreEntriesOf (numbers_with sited several entries) entries

-- the wish at a place waits, and its candidate is live in its programme
abbrev pub waits_beside : State → ℕ → Bool
waits_beside s k = slice_index_or (map is_waiting s.marks) k false && has_seat_there s k

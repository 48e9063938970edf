-- What is kept of each wish, by place, and how it is noted.
use Rattle.std.specs.Prelude.{◌≡◌, ℕ, ◌<◌, ◌+◌, ◌*◌, ◌/◌, ◌%◌, Bool, false, List, length, map, nat_eq}
use Rattle.std.specs.Prelude.{replicate, slice_index_or, if◌then◌else◌}
use Rattle.admit_core.specs.Lists.{is_among}
use Rattle.day_state.specs.Kept.{one_if}

-- where the wish's candidate stands in the line of its programme, and whether they are called by its
-- limit
pub record Noted : Type 0 where
  pub places : List ℕ
  pub called_by_limit : List Bool

-- of so many wishes nothing is known yet
abbrev pub nothing_noted : ℕ → Noted
nothing_noted n = record {
  places = replicate n 0;
  called_by_limit = replicate n false;
}

-- a place and a flag in one number
abbrev pub note_of : ℕ → Bool → ℕ
note_of place is_called = place * 2 + one_if is_called

-- the place in a number
abbrev pub place_in : ℕ → ℕ
place_in n = n / 2

-- and the flag in it
abbrev pub called_in : ℕ → Bool
called_in n = nat_eq (n % 2) 1

-- what is read from one number a wish
abbrev pub read_from : List ℕ → Noted
read_from ns = record {
  places = map place_in ns;
  called_by_limit = map called_in ns;
}

-- some places of a list hold a number, and the others what they held
pub record PutAt (ks : List ℕ) (x : ℕ) (old new : List ℕ) : Type 0 where
  pub as_long : length new ≡ length old
  pub each : (k : ℕ) → k < length old
      → slice_index_or new k 0 ≡ (if is_among k ks then x else slice_index_or old k 0)

-- the wishes of a claim have this place, and are called by the limit where that is so. Of others is
-- known what was known
pub record IsNoted (claim : List ℕ) (place : ℕ) (is_called : Bool) (old new : Noted) : Type 0 where
  pub as_long : length new.places ≡ length old.places
  pub places_are : (k : ℕ) → k < length old.places → slice_index_or new.places k 0
      ≡ (if is_among k claim then place else slice_index_or old.places k 0)
  pub called_are : (k : ℕ) → k < length old.places → slice_index_or new.called_by_limit k false
      ≡ (if is_among k claim then is_called else slice_index_or old.called_by_limit k false)

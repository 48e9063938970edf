-- Flags, one for each place, of which some are set.
use Rattle.std.specs.Prelude.{◌≡◌, ℕ, ◌<◌, Bool, false, ◌||◌, List, length, slice_index_or}

-- as many flags, of which those are set that were, and those of the places that pass a test
pub record SetsAlso (test : ℕ → Bool) (old new : List Bool) : Type 0 where
  pub as_long : length new ≡ length old
  pub each : (k : ℕ) → k < length old → slice_index_or new k false
      ≡ (slice_index_or old k false || test k)

-- Rows of items, one for each number below a count.
use Rattle.std.specs.Prelude.{◌≡◌, ℕ, Bool, List, [], ◌∷◌, ◌++◌, length, map, filter, Some, slice_get, if◌then◌else◌}
use Rattle.std.specs.Prelude.{Vec}
use Rattle.std.specs.declared.alloc.Global.{Global}

-- empty rows
pub record AreEmpty {X : Type 0} (n : ℕ) (rows : List (Vec X Global)) : Type 0 where
  pub as_many : length rows ≡ n
  pub each : (h : ℕ) (row : Vec X Global) → slice_get rows h ≡ Some row → row.items ≡ []

-- an item is put at the end of the rows whose numbers pass a test
pub record IsPutIn {X : Type 0} (here : ℕ → Bool) (x : X)
    (old new : List (Vec X Global)) : Type 0 where
  pub as_many : length new ≡ length old
  pub each :
      (h : ℕ) (row : Vec X Global)
      → slice_get new h ≡ Some row
      → (before : Vec X Global) × (slice_get old h ≡ Some before)
      × (row.items ≡ before.items ++ (if here h then x ∷ [] else []))

-- the items of those of some places that belong in it are put at the end of each row
pub record ArePutIn {X : Type 0} (item : ℕ → X) (belongs : ℕ → ℕ → Bool) (places : List ℕ)
    (old new : List (Vec X Global)) : Type 0 where
  pub as_many : length new ≡ length old
  pub each :
      (h : ℕ) (row : Vec X Global)
      → slice_get new h ≡ Some row
      → (before : Vec X Global) × (slice_get old h ≡ Some before)
      × (row.items ≡ before.items ++ map item (filter (belongs h) places))

-- each row has the items of those of some places that belong in it, in their order
pub record AreRowsOf {X : Type 0} (item : ℕ → X) (belongs : ℕ → ℕ → Bool) (n : ℕ) (places : List ℕ)
    (rows : List (Vec X Global)) : Type 0 where
  pub one_each : length rows ≡ n
  pub each : (h : ℕ) (row : Vec X Global) → slice_get rows h ≡ Some row
      → row.items ≡ map item (filter (belongs h) places)

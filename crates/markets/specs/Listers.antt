-- For each programme the candidates whose lists name it.
use Rattle.std.specs.Prelude.{◌≡◌, ℕ, ◌<◌, Bool, List, [], ◌∷◌, ◌++◌, length, filter, Some, slice_get, slice_index_or}
use Rattle.std.specs.Prelude.{if◌then◌else◌, IsTrue, Vec}
use Rattle.std.specs.List.{range_with_len}
use Rattle.std.specs.declared.alloc.Global.{Global}
use Rattle.admit_core.specs.Lists.{is_among}
use Rattle.markets.specs.Markets.{is_list_below}

-- each list has numbers below a count, none twice
abbrev pub AreLists : ℕ → List (List ℕ) → Type 0
AreLists n lists = (x : ℕ) → x < length lists → IsTrue (is_list_below n (slice_index_or lists x []))

-- among the first k of some lists those that have a number
abbrev pub naming : List (List ℕ) → ℕ → ℕ → List ℕ
naming lists p k = filter (λ x. is_among p (slice_index_or lists x [])) (range_with_len 0 k)

-- rows with the first k lists that have each number below a count
pub record AreListers (lists : List (List ℕ)) (n k : ℕ) (rows : List (Vec ℕ Global)) : Type 0 where
  pub one_each : length rows ≡ n
  pub each : (p : ℕ) (row : Vec ℕ Global) → slice_get rows p ≡ Some row
      → row.items ≡ naming lists p k

-- an item of each row is put at its end, where its number passes a test
pub record ArePutIn {A : Type 0} (here : ℕ → Bool) (item : ℕ → A)
    (old new : List (Vec A Global)) : Type 0 where
  pub as_many : length new ≡ length old
  pub each :
      (p : ℕ) (row : Vec A Global)
      → slice_get new p ≡ Some row
      → (before : Vec A Global) × (slice_get old p ≡ Some before)
      × (row.items ≡ before.items ++ (if here p then item p ∷ [] else []))

-- The ranks of a school's row that are known, and which of them have a bed.
use Rattle.std.specs.Prelude.{◌≡◌, ℕ, nat_eq, nat_lt, ◌-◌, ◌≤◌, ◌<◌, Bool, true, false, ◌||◌, List, [], ◌∷◌, ◌++◌}
use Rattle.std.specs.Prelude.{length, map, filter, take, Vec}
use Rattle.std.specs.Prelude.{Option, Some, None, option_map, unwrap_or, if◌then◌else◌, slice_get, slice_index}
use Rattle.std.specs.Prelude.{slice_index_or}
use Rattle.std.specs.declared.alloc.Global.{Global}
use Rattle.admit_core.specs.Lists.{is_among}
use Rattle.admit_core.proofs.Tests.{Ascends}
use Rattle.linked_demand.specs.Rungs.{Rung, housed_in}
use Rattle.linked_demand.specs.declared.rows.RowWish.{RowWish}
use Rattle.linked_demand.specs.Demand.{counted, is_proposed_at}
use Rattle.linked_demand.specs.Links.{LinksRow}

abbrev pub ranks_of : List Rung → List ℕ
ranks_of xs = map (λ x. x.rank) xs

-- the rungs whose ranks pass a test
abbrev pub kept : (ℕ → Bool) → List Rung → List Rung
kept q xs = filter (λ x. q x.rank) xs

-- the last rank, or 0
abbrev pub last_rank : List Rung → ℕ
last_rank xs = unwrap_or (option_map (λ x. x.rank) (slice_get xs (length xs - 1))) 0

-- a rank has a bed, if it is known
abbrev pub noted : ℕ → List Rung → List Rung
noted r xs =
    map (λ x. let y : Rung = record x { housed = x.housed || nat_eq r x.rank } in y) xs

-- the last rank that has a bed is given up, with all above it
pub record GivesUp (old new : List Rung) (rank : ℕ) : Type 0 where
  pub housed : housed_in old ≡ housed_in new ++ rank ∷ []
  pub kept_are : new ≡ kept (λ r. nat_lt r rank) old

-- a rank is below the first one that has no bed
abbrev pub is_below : Option ℕ → ℕ → Bool
is_below None r = true
is_below (Some over) r = nat_lt r over

-- it is within a bar, where it passes a test
abbrev pub within : (ℕ → Bool) → Option ℕ → Option ℕ
within q None = None
within q (Some over) = if q over then Some over else None

-- of the demanded ranks of a row, those below the first one that has no bed have one; but for those
-- that only wishes demand which are left to be looked at
pub record AreNoted (p left : ℕ → Bool) (row : List RowWish) (over : Option ℕ)
    (xs : List Rung) : Type 0 where
  pub rises : Ascends (0 ∷ ranks_of xs)
  pub sound : (r : ℕ) → is_among r (housed_in xs) ≡ true → is_among r (counted p 0 row) ≡ true
  pub complete : (k : ℕ) (x : RowWish) → slice_get row k ≡ Some x → p x.wish ≡ true
      → left x.wish ≡ false → 0 < x.rank → is_below over x.rank ≡ true
      → is_among x.rank (housed_in xs) ≡ true
  pub known : (k : ℕ) (x : RowWish) → slice_get row k ≡ Some x → 0 < x.rank
      → is_below over x.rank ≡ true → is_among x.rank (ranks_of xs) ≡ true
  pub below : (r : ℕ) → is_among r (ranks_of xs) ≡ true → is_below over r ≡ true

-- and these are as many as there are beds, or all
pub record AreHoused (p left : ℕ → Bool) (row : List RowWish) (free : ℕ)
    (over : Option ℕ) (xs : List Rung) : Type 0 where
  pub noted_are : AreNoted p left row over xs
  pub few : length (housed_in xs) ≤ free
  pub demanded : (o : ℕ) → over ≡ Some o → is_among o (counted p 0 row) ≡ true
  pub full : (o : ℕ) → over ≡ Some o → free ≤ length (housed_in xs)

-- so in each school
pub record AllHoused (l : LinksRow) (left : ℕ → Bool) (rows : List (List RowWish))
    (free : List ℕ) (overfilled : List (Option ℕ)) (housed : List (List Rung)) : Type 0 where
  pub one_each : length housed ≡ length rows
  pub answer_each : length overfilled ≡ length rows
  pub each : (h : ℕ) (row : List RowWish) → slice_get rows h ≡ Some row
      → AreHoused (is_proposed_at l) left row (slice_index free h)
      (slice_index_or overfilled h None) (slice_index_or housed h [])

-- all ranks of the first boarders of a school are known, and none has a bed
pub record IsBare (front : List RowWish) (xs : List Rung) : Type 0 where
  pub rises : Ascends (0 ∷ ranks_of xs)
  pub none : housed_in xs ≡ []
  pub known : (k : ℕ) (x : RowWish) → slice_get front k ≡ Some x → 0 < x.rank
      → is_among x.rank (ranks_of xs) ≡ true

-- so in each school
pub record AreBare (boarders : List (Vec RowWish Global)) (ends : List ℕ)
    (housed : List (List Rung)) : Type 0 where
  pub one_each : length housed ≡ length boarders
  pub each : (h : ℕ) (own : Vec RowWish Global) → slice_get boarders h ≡ Some own
      → IsBare (take (slice_index ends h) own.items) (slice_index_or housed h [])

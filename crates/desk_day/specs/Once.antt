-- Wishes of the same candidates.
use Rattle.std.specs.Prelude.{◌≡◌, ◌≢◌, ℕ, List, map, slice_index, AllPairs}
use Rattle.admit_core.specs.DossierRows.{DossierRows, candidate_of}
use Rattle.admit_core.specs.Lists.{is_among}
use Rattle.admit_core.specs.OwnWishes.{own_places}
use Rattle.desk_day.specs.DayPlaces.{AreWishesOf}

-- the second list has wishes of the candidates of the first one, and of no others
pub record NamesSame (d : DossierRows) (old new : List ℕ) : Type 0 where
  pub within : AreWishesOf d new
  pub same : (c : ℕ) → is_among c (map (candidate_of d) new)
      ≡ is_among c (map (candidate_of d) old)

-- the first wish of the candidate of the wish at a place
abbrev pub first_own : DossierRows → ℕ → ℕ
first_own d k = slice_index (own_places d (candidate_of d k)) 0

-- no two of some wishes are of one candidate
abbrev pub AreOfOneEach : DossierRows → List ℕ → Type 0
AreOfOneEach d places = AllPairs (λ j k. candidate_of d j ≢ candidate_of d k) places

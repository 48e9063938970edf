-- The wishes with a school, by rank, and those of each school.
use Rattle.std.specs.Prelude.{◌≡◌, ◌==◌, ℕ, ◌<◌, Bool, List, filter, length, map, Some, All, Vec}
use Rattle.std.specs.List.Sorted.{IsNonDecreasingBy}
use Rattle.std.specs.declared.alloc.Global.{Global}
use Rattle.admit_core.specs.declared.ranking.CallOrder.{CallOrder}
use Rattle.admit_core.specs.DossierRows.{DossierRows}
use Rattle.admit_core.specs.State.{is_school}
use Rattle.day_state.specs.Bundles.{seat_bundle}
use Rattle.day_state.specs.Kept.{wish_in}
use Rattle.linked_demand.specs.declared.boarders.Boarder.{Boarder}
use Rattle.linked_demand.specs.declared.rows.RowWish.{RowWish}
use Rattle.linked_demand.specs.Keyed.{AreRowsOf}
use Rattle.linked_demand.specs.Rows.{item_at}
use Rattle.linked_demand.specs.Seats.{boarders_of, may_share_school}

-- the record is that of its wish
pub record IsBoarder (d : DossierRows) (b : Boarder) : Type 0 where
  pub within : b.wish < length d.wishes
  pub school : (wish_in d.wishes b.wish).school ≡ Some b.school
  pub rank : b.rank ≡ (wish_in d.wishes b.wish).board_rank
  pub programme : b.programme ≡ (wish_in d.wishes b.wish).programme
  pub bundle : b.bundle ≡ seat_bundle d b.wish
  pub there : b.school < length d.schools
  pub shared : b.shared ≡ may_share_school d b.wish

abbrev pub wishes_of : List Boarder → List ℕ
wishes_of bs = map (λ b. b.wish) bs

abbrev pub items_wishes : List RowWish → List ℕ
items_wishes xs = map (λ x. x.wish) xs

-- the rank of the wish at a place in its school
abbrev pub rank_at : DossierRows → ℕ → ℕ
rank_at d k = (wish_in d.wishes k).board_rank

-- some places of wishes are those of all wishes with a school, in order by rank, and those of one
-- rank ascend
pub record AreByRank (d : DossierRows) (places : List ℕ) : Type 0 where
  pub rises : IsNonDecreasingBy (rank_at d) places
  pub own : (r : ℕ) → filter (λ k. rank_at d k == r) places
      ≡ filter (λ k. rank_at d k == r) (boarders_of d)

-- all wishes with a school in this order
pub record AreBoarders (d : DossierRows) (bs : List Boarder) : Type 0 where
  pub wishes : AreByRank d (wishes_of bs)
  pub each : All (IsBoarder d) bs

-- and by place
pub record AreByPlace (d : DossierRows) (bs : List Boarder) : Type 0 where
  pub wishes : wishes_of bs ≡ boarders_of d
  pub each : All (IsBoarder d) bs

-- the wish at a place has the school
abbrev pub boards_in : DossierRows → ℕ → ℕ → Bool
boards_in d h k = is_school (wish_in d.wishes k).school h

-- for each school what is kept of the wishes that have it, in this order
pub record AreBySchool (d : DossierRows) (orders : List CallOrder)
    (rows : List (Vec RowWish Global)) : Type 0 where
  pub places : List ℕ
  pub within : All (λ k. k < length d.wishes) places
  pub by_rank : AreByRank d places
  pub rows_are : AreRowsOf (item_at d orders) (boards_in d) (length d.schools) places rows

-- Which wishes stand in the row of a school, by the flags of the open ones.
use Rattle.std.specs.Prelude.{ℕ, Bool, false, not, ◌&&◌, List, map, filter, slice_index_or, Option, None, if◌then◌else◌}
use Rattle.day_state.specs.Kept.{has_bed_there, wish_in}
use Rattle.admit_core.specs.declared.ranking.CallOrder.{CallOrder}
use Rattle.admit_core.specs.State.{State, is_school}
use Rattle.linked_demand.specs.declared.rows.RowWish.{RowWish}
use Rattle.linked_demand.specs.Demand.{is_proposed_at}
use Rattle.linked_demand.specs.Links.{LinksRow}
use Rattle.linked_demand.specs.Rows.{row_item}

-- the wish at a place is open by its flag, and its candidate has no bed in its school
abbrev pub wants_bed : State → List Bool → ℕ → Bool
wants_bed s opens k = slice_index_or opens k false && not (has_bed_there s k)

-- the school in which it demands a bed
abbrev pub bed_sought : LinksRow → ℕ → Option ℕ
bed_sought l k =
    if wants_bed l.state l.opens k && is_proposed_at l k
    then (wish_in l.state.dossier.wishes k).school else None

-- it wants a bed and has this school, in whose row it stands
abbrev pub is_in_row : State → List Bool → ℕ → ℕ → Bool
is_in_row s opens h k = wants_bed s opens k && is_school (wish_in s.dossier.wishes k).school h

-- the row of a school, of wishes at some places
abbrev pub row_along : State → List CallOrder → List Bool → List ℕ → ℕ → List RowWish
row_along s orders opens places h =
    map (row_item s orders) (filter (is_in_row s opens h) places)

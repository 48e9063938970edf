-- A round of falls that keeps the links of the programmes and the rows of the schools.
use Rattle.std.specs.Prelude.{◌≡◌, ℕ, Bool, false, List, length, map, Option, Some, slice_get, slice_index, Vec}
use Rattle.std.specs.List.{range_with_len}
use Rattle.std.specs.declared.alloc.Global.{Global}
use Rattle.std.proofs.lemmas.List.FromFn.{length-map-range_with_len}
use Rattle.admit_core.specs.declared.ranking.CallOrder.{CallOrder}
use Rattle.admit_core.specs.State.{State}
use Rattle.admit_core.specs.Proposals.{is_proposed}
use Rattle.day_state.specs.Kept.{mark_in, wish_in}
use Rattle.linked_demand.specs.declared.rows.RowWish.{RowWish}
use Rattle.linked_demand.specs.Boarders.{AreBySchool}
use Rattle.linked_demand.specs.Lent.{left_of}
use Rattle.linked_demand.specs.Links.{LinksRow}
use Rattle.linked_demand.specs.Opens.{opens_of}
use Rattle.linked_demand.specs.Rows.{IsRow, AllItems, AreEnds, rows_to}
use Rattle.linked_demand.specs.Demand.{over_at}
use Rattle.linked_demand.specs.Rungs.{Rung}
use Rattle.linked_demand.specs.Housed.{AllHoused}

-- what a round is seen as: its state has the beds that are lent
pub record Round : Type 0 where
  pub state : State
  pub orders : List CallOrder
  pub ceilings : List ℕ
  pub bars : List ℕ

pub record IsRound (links : LinksRow) (bars free : List ℕ)
    (rows : List (List RowWish)) : Type 0 where
  pub marks_each : length links.state.marks ≡ length links.state.dossier.wishes
  pub bars_each : length bars ≡ length links.state.dossier.schools
  pub free_each : length free ≡ length links.state.dossier.schools
  pub rows_each : length rows ≡ length bars
  pub opens_are : links.opens ≡ opens_of links.state bars
  pub rows_are : (h : ℕ) (row : List RowWish) → slice_get rows h ≡ Some row
      → IsRow links.state bars h row
  pub items_are : AllItems links.state links.orders rows

-- of each school the first demanded rank that has no bed, where there is one, and the ranks that are
-- known, with who has a bed
pub record SchoolBeds : Type 0 where
  pub overfilled : List (Option ℕ)
  pub housed : List (List Rung)

-- in any round of these links: where the schools are housed, but for some wishes, they are housed
-- afterwards, but for those that are left then
abbrev pub HousesMore : LinksRow → List ℕ → (ℕ → Bool) → (ℕ → Bool) → SchoolBeds → SchoolBeds → Type 0
HousesMore links free left left_then old new =
    (bars : List ℕ) (rows : List (List RowWish)) → IsRound links bars free rows
    → AllHoused links left rows free old.overfilled old.housed
    → AllHoused links left_then rows free new.overfilled new.housed

-- what a round keeps of its schools: the same of each, and a mark for each wish
pub record SchoolsKept : Type 0 where
  pub overfilled : List (Option ℕ)
  pub marked : List Bool
  pub housed : List (List Rung)

-- what holds of the parts of a round: with the answers of the schools, and who has a bed in each
pub record IsRoundUnder (links : LinksRow) (ceilings bars free : List ℕ)
    (rows : List (List RowWish)) (schools : SchoolsKept) : Type 0 where
  pub round : IsRound links bars free rows
  pub ceilings_each : length ceilings ≡ length links.state.dossier.schools
  pub overfilled_are : schools.overfilled
      ≡ map (over_at links.state links.orders bars free)
      (range_with_len 0 (length links.state.dossier.schools))
  pub marked_each : length schools.marked ≡ length links.state.dossier.wishes
  pub housed_are : AllHoused links (λ k. false) rows free schools.overfilled schools.housed

-- and where the rows are those of the first boarders of each school, and the free beds those that
-- are left of the beds that are lent
pub record IsRoundAlong (links : LinksRow) (ceilings bars beds : List ℕ)
    (boarders : List (Vec RowWish Global)) (ends : List ℕ) (schools : SchoolsKept) : Type 0 where
  pub under : IsRoundUnder links ceilings bars (left_of links.state beds)
      (rows_to links.state boarders ends) schools
  pub beds_each : length beds ≡ length links.state.dossier.schools
  pub boarders_are : AreBySchool links.state.dossier links.orders boarders
  pub ends_are : AreEnds boarders ends

-- one bar for each ceiling
abbrev pub bar_each : List ℕ → List ℕ → List ℕ
bar_each ceilings bars = map (slice_index bars) (range_with_len 0 (length ceilings))

pub length-bar_each : (ceilings bars : List ℕ) → length (bar_each ceilings bars) ≡ length ceilings
length-bar_each ceilings bars = length-map-range_with_len (slice_index bars) 0 (length ceilings)

-- the wish at a place is proposed at the bars of a round
abbrev pub is_proposed_in : Round → ℕ → Bool
is_proposed_in r k =
    is_proposed r.state r.orders r.bars (wish_in r.state.dossier.wishes k) (mark_in r.state.marks k)

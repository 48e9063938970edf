-- The boarders of a school by rank, and its row: those who wait for a bed there, up to its bar.
use Rattle.std.specs.Prelude.{◌≡◌, ℕ, nat_eq, nat_le, ◌-◌, ◌≤◌, ◌<◌, Bool, true, false, not, ◌&&◌, List, [], ◌∷◌}
use Rattle.std.specs.Prelude.{length, take, drop, filter, map, zip, Some, slice_get, slice_index, slice_index_or}
use Rattle.std.specs.Prelude.{slice_set, All, Vec}
use Rattle.std.specs.List.{position_or_len}
use Rattle.std.specs.List.Sorted.{IsNonDecreasingBy, IsPartitionPoint}
use Rattle.std.specs.declared.alloc.Global.{Global}
use Rattle.admit_core.specs.declared.ranking.CallOrder.{CallOrder}
use Rattle.admit_core.specs.DossierRows.{DossierRows}
use Rattle.admit_core.specs.declared.dossier.Wish.{Wish}
use Rattle.admit_core.specs.declared.state.Mark.{Mark}
use Rattle.admit_core.specs.State.{State, entries, holds_bed, has_school, is_waiting}
use Rattle.admit_core.specs.Proposals.{is_open}
use Rattle.day_state.specs.Bundles.{seat_bundle}
use Rattle.day_state.specs.Kept.{has_bed_there, mark_in, wish_in}
use Rattle.linked_demand.specs.declared.rows.RowWish.{RowWish}
use Rattle.linked_demand.specs.Links.{AllOpenWait, LinksRow, WaitsAt}
use Rattle.linked_demand.specs.Opens.{line_of}
use Rattle.linked_demand.specs.Seats.{is_called_by_limit, may_share_school}

-- the place of a wish's candidate in the line of its programme
abbrev pub line_place : DossierRows → List CallOrder → Wish → ℕ
line_place d orders w = position_or_len (nat_eq w.candidate) (line_of d orders w.programme)

-- what is kept of a wish with a school
abbrev pub item_of : DossierRows → List CallOrder → ℕ → Wish → RowWish
item_of d orders k w = record {
  rank = w.board_rank;
  wish = k;
  programme = w.programme;
  place = line_place d orders w;
  bundle = seat_bundle d k;
  shared = may_share_school d k;
  called_by_limit = is_called_by_limit d orders w;
}

-- and of the wish at a place
abbrev pub item_at : DossierRows → List CallOrder → ℕ → RowWish
item_at d orders k = item_of d orders k (wish_in d.wishes k)

abbrev pub row_item : State → List CallOrder → ℕ → RowWish
row_item s orders k = item_at s.dossier orders k

-- an item is that of its wish
pub record IsItem (d : DossierRows) (orders : List CallOrder) (x : RowWish) : Type 0 where
  pub within : x.wish < length d.wishes
  pub item : x ≡ item_at d orders x.wish

-- an item tells whether its wish's candidate may have another one with the school
pub record TellsOfSchool (d : DossierRows) (x : RowWish) : Type 0 where
  pub within : x.wish < length d.wishes
  pub shared : x.shared ≡ may_share_school d x.wish

-- each item of a row is that of its wish
abbrev pub AreItems : State → List CallOrder → List RowWish → Type 0
AreItems s orders row =
    (k : ℕ) (x : RowWish) → slice_get row k ≡ Some x → x ≡ row_item s orders x.wish

-- and so in all rows
abbrev pub AllItems : State → List CallOrder → List (List RowWish) → Type 0
AllItems s orders rows =
    (h : ℕ) (row : List RowWish) → slice_get rows h ≡ Some row → AreItems s orders row

-- a wish that waits for the school, whose candidate has no bed there
pub record WaitsFor (s : State) (h : ℕ) (x : RowWish) (w : Wish) (m : Mark) : Type 0 where
  pub waits : WaitsAt s x.wish w m
  pub has : has_school w h ≡ true
  pub no_bed : not (holds_bed s w.candidate h) ≡ true
  pub rank : x.rank ≡ w.board_rank

-- the ranks of a row do not fall
abbrev pub RanksRise : List RowWish → Type 0
RanksRise row = (j k : ℕ) (x y : RowWish) → j ≤ k → slice_get row j ≡ Some x
    → slice_get row k ≡ Some y → x.rank ≤ y.rank

-- the row of a school: those who wait for it and rank at most at the bar, by rank, and those of one
-- rank by place
pub record IsRow (s : State) (bars : List ℕ) (h : ℕ) (row : List RowWish) : Type 0 where
  pub rises : RanksRise row
  pub in_order : (j k : ℕ) (x y : RowWish) → j < k → slice_get row j ≡ Some x
      → slice_get row k ≡ Some y
      → x.rank ≡ y.rank → x.wish < y.wish
  pub each : (k : ℕ) (x : RowWish) → slice_get row k ≡ Some x → (w : Wish) × (m : Mark)
      × WaitsFor s h x w m
  pub below : (k : ℕ) (x : RowWish) → slice_get row k ≡ Some x → x.rank ≤ slice_index bars h
  pub all : (x : RowWish) (w : Wish) (m : Mark) → WaitsFor s h x w m → x.rank ≤ slice_index bars h
      → (k : ℕ) × (y : RowWish) × (slice_get row k ≡ Some y) × (y.rank ≡ x.rank) × (y.wish ≡ x.wish)

-- the flags after the wishes of a part of a row are closed
abbrev pub closed : List RowWish → List Bool → List Bool
closed [] opens = opens
closed (x ∷ xs) opens = slice_set (closed xs opens) x.wish false

-- the row keeps its wishes of at most a rank, and the others are closed
pub record CutsAt (to : ℕ) (row : List RowWish) (opens : List Bool) (kept : List RowWish)
    (after : List Bool) : Type 0 where
  pub end : ℕ
  pub within : end ≤ length row
  pub kept_is : kept ≡ take end row
  pub after_is : after ≡ closed (drop end row) opens
  pub past : (k : ℕ) (x : RowWish) → end ≤ k → slice_get row k ≡ Some x → to < x.rank
  pub last : (x : RowWish) → 0 < end → slice_get row (end - 1) ≡ Some x → x.rank ≤ to

-- each wish of the row waits
abbrev pub AllWait : State → List RowWish → Type 0
AllWait s row =
    (k : ℕ) (x : RowWish) → slice_get row k ≡ Some x → (w : Wish) × (m : Mark)
    × WaitsAt s x.wish w m

-- an item of a wish that waits and is open
pub record IsOpenItem (l : LinksRow) (x : RowWish) : Type 0 where
  pub waits : (w : Wish) × (m : Mark) × WaitsAt l.state x.wish w m
  pub flag : slice_index_or l.opens x.wish false ≡ true
  pub item : x ≡ row_item l.state l.orders x.wish

-- each item of the row is one
abbrev pub AreOpen : LinksRow → List RowWish → Type 0
AreOpen l row = (k : ℕ) (x : RowWish) → slice_get row k ≡ Some x → IsOpenItem l x

-- the wish of an item waits, and its candidate has no bed in its school
abbrev pub needs_bed : State → RowWish → Bool
needs_bed s x = is_waiting (mark_in s.marks x.wish) && not (has_bed_there s x.wish)

-- those of some items of a school that are in its row, where they rank at most at its bar
abbrev pub row_in : State → List RowWish → List RowWish
row_in s front = filter (needs_bed s) front

-- the row of each school, where so many of its boarders rank at most at its bar
abbrev pub rows_to : State → List (Vec RowWish Global) → List ℕ → List (List RowWish)
rows_to s boarders ends = map (λ (own, end). row_in s (take end own.items)) (zip boarders ends)

-- no more of the boarders of a school rank at most at its bar than there are
pub record AreEnds (boarders : List (Vec RowWish Global)) (ends : List ℕ) : Type 0 where
  pub one_each : length ends ≡ length boarders
  pub within : (h : ℕ) (own : Vec RowWish Global) → slice_get boarders h ≡ Some own
      → slice_index ends h ≤ length own.items

-- the first boarders of a school, as many as rank at most at its bar
pub record AreFirst (boarders : List (Vec RowWish Global)) (ends : List ℕ) (h : ℕ)
    (front : List RowWish) : Type 0 where
  pub own : Vec RowWish Global
  pub found : slice_get boarders h ≡ Some own
  pub front_is : front ≡ take (slice_index ends h) own.items

-- so many of some items rank at most at a bar, and they come first
pub record IsEnd (bar : ℕ) (own : List RowWish) (end : ℕ) : Type 0 where
  pub within : end ≤ length own
  pub point : IsPartitionPoint (λ x. nat_le x.rank bar ≡ true) (λ x. nat_le x.rank bar ≡ false)
      own end

pub record AreEndsAt (bars : List ℕ) (boarders : List (Vec RowWish Global))
    (ends : List ℕ) : Type 0 where
  pub one_each : length ends ≡ length boarders
  pub each : (h : ℕ) (own : Vec RowWish Global) → slice_get boarders h ≡ Some own
      → IsEnd (slice_index bars h) own.items (slice_index ends h)

-- the boarders of each school come by rank
abbrev pub AreByRankEach : List (Vec RowWish Global) → Type 0
AreByRankEach boarders =
    (h : ℕ) (own : Vec RowWish Global) → slice_get boarders h ≡ Some own
    → IsNonDecreasingBy (λ x. x.rank) own.items

-- the first boarders of a school by rank, whose row is of open wishes by rank
pub record AreOpenFirst (l : LinksRow) (front : List RowWish) : Type 0 where
  pub all_rise : IsNonDecreasingBy (λ x. x.rank) front
  pub own : All (IsItem l.state.dossier l.orders) front
  pub items : AreOpen l (row_in l.state front)
  pub rises : RanksRise (row_in l.state front)

-- what is open under bars has its flag set, and no wish of the row past a number is open under them
pub record StayOpen (l : LinksRow) (bars : List ℕ) (to : ℕ) (row : List RowWish) : Type 0 where
  pub flagged : (k : ℕ) (e : Wish × Mark) → slice_get (entries l.state) k ≡ Some e
      → is_open l.state bars e.0 e.1 ≡ true → slice_index_or l.opens k false ≡ true
  pub past : (j : ℕ) (x : RowWish) (e : Wish × Mark) → slice_get row j ≡ Some x → to < x.rank
      → slice_get (entries l.state) x.wish ≡ Some e → is_open l.state bars e.0 e.1 ≡ false

-- the first boarders of a school, of whose row a part can be cut off and closed
pub record CanBeCut (l : LinksRow) (bars : List ℕ) (to : ℕ) (front : List RowWish) : Type 0 where
  pub open_wait : AllOpenWait l.state l.opens
  pub own : All (IsItem l.state.dossier l.orders) front
  pub rises : RanksRise front
  pub waits : AllWait l.state (row_in l.state front)
  pub items : AreItems l.state l.orders (row_in l.state front)
  pub stay : StayOpen l bars to (row_in l.state front)

-- the first ones of a row, before one that ranks past a number
pub record IsFront (upto : ℕ) (row front : List RowWish) : Type 0 where
  pub end : ℕ
  pub within : end ≤ length row
  pub front_is : front ≡ take end row
  pub next : (x : RowWish) → slice_get row end ≡ Some x → upto < x.rank

-- one row for each school
pub record AreRows (s : State) (bars : List ℕ) (rows : List (List RowWish)) : Type 0 where
  pub one_each : length rows ≡ length s.dossier.schools
  pub each : (h : ℕ) (row : List RowWish) → slice_get rows h ≡ Some row
      → IsRow s bars h row

-- Witnesses of the laws of bars: three wishes for the one bed of a school, and two schools whose bars
-- fall in turn.
use Rattle.std.specs.Prelude.{◌≡◌, ℕ, ◌≤◌, ◌<◌, List, [], ◌∷◌, length, slice_index, IsTrue}
use Rattle.admit_core.specs.declared.dossier.Wish.{Wish}
use Rattle.admit_core.specs.declared.ranking.CallOrder.{CallOrder}
use Rattle.admit_core.specs.declared.records.Fall.{Fall}
use Rattle.admit_core.specs.declared.state.Mark.{Mark}
use Rattle.admit_core.specs.declared.state.Status.TheVariants.{Waiting}
use Rattle.admit_core.specs.Boarding.{boarding}
use Rattle.admit_core.specs.Falls.{AreFalls, Fits, FallingSystem, IsAtMost, IsGreatest, IsLawful, IsRunOfFalls, Leads}
use Rattle.admit_core.specs.Falls.{bars_after, falls_by}
use Rattle.admit_core.specs.Lists.{is_among}
use Rattle.admit_core.specs.Proposals.{ahead, demanded_ranks, is_open, is_proposed}
use Rattle.admit_core.specs.State.{State}
use Rattle.admit_core.specs.WorkedDays.{fall, two_candidates}
use Rattle.admit_core.specs.WorkedRows.{boarder, cascade, cascade_orders, greatest_bar, greatest_bar_orders, morning}
use Rattle.admit_core.specs.WorkedRows.{programme, rows, school, state}
use Rattle.bar_fixpoint.specs.Runs.{AreAboveAllThatFit, schools_of}

-- the wishes of ranks 2 and 1 for the first programme of `greatest_bar`
abbrev pub second_rank : Wish
second_rank = boarder 1 21 0 0 2 0

abbrev pub first_rank : Wish
first_rank = boarder 2 22 0 0 1 0

-- the fall of the school of `greatest_bar`, and those of the two schools of `cascade`
abbrev pub one_fall : List Fall
one_fall = fall 0 10 2 (0 ∷ 2 ∷ []) ∷ []

abbrev pub three_falls : List Fall
three_falls = fall 0 9 2 (0 ∷ 1 ∷ []) ∷ fall 1 9 1 (2 ∷ 3 ∷ []) ∷ fall 0 2 1 (4 ∷ 0 ∷ []) ∷ []

-- the rank at the bar
abbrev pub RanksStandBelowBarsWitness : Type 0
RanksStandBelowBarsWitness =
    let s : State = greatest_bar in
    let orders : List CallOrder = greatest_bar_orders in
    let bars : List ℕ = 2 ∷ [] in
    let h : ℕ = 0 in
    let r : ℕ = 2 in
    IsTrue (is_among r (demanded_ranks s orders bars h))
    × (1 ≤ r) × (r ≤ slice_index bars h)

-- rank 2 stays demanded as the bar falls to it
abbrev pub RanksStayDemandedWitness : Type 0
RanksStayDemandedWitness =
    let s : State = greatest_bar in
    let orders : List CallOrder = greatest_bar_orders in
    let lower : List ℕ = 2 ∷ [] in
    let upper : List ℕ = 10 ∷ [] in
    let h : ℕ = 0 in
    let r : ℕ = 2 in
    IsAtMost lower upper
    × IsTrue (is_among r (demanded_ranks s orders upper h))
    × (r ≤ slice_index lower h)
    × IsTrue (is_among r (demanded_ranks s orders lower h))

-- and as the bar of another school falls too
abbrev pub RanksStayDemandedOtherWitness : Type 0
RanksStayDemandedOtherWitness =
    let s : State = cascade in
    let orders : List CallOrder = cascade_orders in
    let lower : List ℕ = 2 ∷ 1 ∷ [] in
    let upper : List ℕ = 9 ∷ 9 ∷ [] in
    let h : ℕ = 0 in
    let r : ℕ = 2 in
    IsAtMost lower upper
    × IsTrue (is_among r (demanded_ranks s orders upper h))
    × (r ≤ slice_index lower h)
    × IsTrue (is_among r (demanded_ranks s orders lower h))

abbrev pub WishesStayOpenWitness : Type 0
WishesStayOpenWitness =
    let s : State = greatest_bar in
    let lower : List ℕ = 2 ∷ [] in
    let upper : List ℕ = 10 ∷ [] in
    let w : Wish = second_rank in
    let m : Mark = morning Waiting in
    IsAtMost lower upper
    × IsTrue (is_open s lower w m)
    × IsTrue (is_open s upper w m)

-- under the bar 1 the one ahead is barred: none stands ahead where one did
abbrev pub NoMoreStandAheadWitness : Type 0
NoMoreStandAheadWitness =
    let s : State = greatest_bar in
    let orders : List CallOrder = greatest_bar_orders in
    let lower : List ℕ = 1 ∷ [] in
    let upper : List ℕ = 2 ∷ [] in
    let w : Wish = first_rank in
    IsAtMost lower upper
    × (ahead s orders lower w ≤ ahead s orders upper w)

abbrev pub WishesStayProposedWitness : Type 0
WishesStayProposedWitness =
    let s : State = greatest_bar in
    let orders : List CallOrder = greatest_bar_orders in
    let lower : List ℕ = 2 ∷ [] in
    let upper : List ℕ = 10 ∷ [] in
    let w : Wish = second_rank in
    let m : Mark = morning Waiting in
    IsAtMost lower upper
    × IsTrue (is_proposed s orders upper w m)
    × IsTrue (is_open s lower w m)
    × IsTrue (is_proposed s orders lower w m)

abbrev pub RunsEndAtGreatestWitness : Type 0
RunsEndAtGreatestWitness =
    let s : State = greatest_bar in
    let orders : List CallOrder = greatest_bar_orders in
    let ceilings : List ℕ = 10 ∷ [] in
    let falls : List Fall = one_fall in
    IsRunOfFalls (boarding s orders ceilings) falls
    × IsGreatest (boarding s orders ceilings) (bars_after ceilings falls)

abbrev pub LoweredBarsAreFullWitness : Type 0
LoweredBarsAreFullWitness =
    let sys : FallingSystem = boarding greatest_bar greatest_bar_orders (10 ∷ []) in
    let bars : List ℕ = 2 ∷ [] in
    let i : ℕ = 0 in
    IsLawful sys
    × IsGreatest sys bars
    × (slice_index bars i < slice_index sys.ceilings i)
    × (length (sys.ranks bars i) ≡ slice_index sys.free i)

-- ---- of every lawful system, here the two schools of `cascade`
abbrev pub EveryRunEndsAtTheGreatestWitness : Type 0
EveryRunEndsAtTheGreatestWitness =
    let sys : FallingSystem = boarding cascade cascade_orders (9 ∷ 9 ∷ []) in
    let falls : List Fall = three_falls in
    IsLawful sys
    × IsRunOfFalls sys falls
    × IsGreatest sys (bars_after sys.ceilings falls)

-- after the first fall alone
abbrev pub FallsStayAboveAllThatFitWitness : Type 0
FallsStayAboveAllThatFitWitness =
    let sys : FallingSystem = boarding cascade cascade_orders (9 ∷ 9 ∷ []) in
    let falls : List Fall = fall 0 9 2 (0 ∷ 1 ∷ []) ∷ [] in
    IsLawful sys
    × AreFalls sys sys.ceilings falls
    × AreAboveAllThatFit sys (bars_after sys.ceilings falls)

-- and bars that fit, and so are at most those
abbrev pub AreAboveAllThatFitWitness : Type 0
AreAboveAllThatFitWitness =
    let sys : FallingSystem = boarding cascade cascade_orders (9 ∷ 9 ∷ []) in
    let bars : List ℕ = 2 ∷ 9 ∷ [] in
    let others : List ℕ = 1 ∷ 1 ∷ [] in
    Fits sys others × IsAtMost others bars

-- two schools without beds, which fall in either order
abbrev pub two_full : State
two_full =
    state (rows (programme 10 0 2 ∷ []) (school 5 0 4 ∷ school 6 0 4 ∷ [])
    (boarder 1 11 0 0 1 0 ∷ boarder 2 12 0 1 2 0 ∷ []) (Waiting ∷ Waiting ∷ []))

abbrev pub TheGreatestIsUniqueWitness : Type 0
TheGreatestIsUniqueWitness =
    let sys : FallingSystem = boarding two_full two_candidates (4 ∷ 4 ∷ []) in
    let one : List ℕ = bars_after sys.ceilings (falls_by sys sys.ceilings (0 ∷ 1 ∷ [])) in
    let other : List ℕ = bars_after sys.ceilings (falls_by sys sys.ceilings (1 ∷ 0 ∷ [])) in
    IsGreatest sys one
    × IsGreatest sys other × (one ≡ other)

abbrev pub PicksFixTheFallsWitness : Type 0
PicksFixTheFallsWitness =
    let sys : FallingSystem = boarding cascade cascade_orders (9 ∷ 9 ∷ []) in
    let falls : List Fall = three_falls in
    IsRunOfFalls sys falls
    × Leads sys (schools_of falls) × (falls_by sys sys.ceilings (schools_of falls) ≡ falls)

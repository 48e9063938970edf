-- What holds of demanded ranks, proposed wishes and greatest bars.
use Rattle.std.specs.Prelude.{◌≡◌, ℕ, ◌≤◌, ◌<◌, List, length, slice_index, IsTrue}
use Rattle.std.specs.List.Sorted.{IsStrictlyIncreasing}
use Rattle.admit_core.specs.declared.dossier.Wish.{Wish}
use Rattle.admit_core.specs.declared.state.Mark.{Mark}
use Rattle.admit_core.specs.declared.ranking.CallOrder.{CallOrder}
use Rattle.admit_core.specs.declared.records.Fall.{Fall}
use Rattle.admit_core.specs.Lists.{is_among}
use Rattle.admit_core.specs.State.{State}
use Rattle.admit_core.specs.Proposals.{is_open, ahead, is_proposed, demanded_ranks}
use Rattle.admit_core.specs.Falls.{FallingSystem, IsAtMost, IsLawful, IsGreatest, IsRunOfFalls, bars_after}
use Rattle.admit_core.specs.Boarding.{boarding}

-- the demanded ranks of a school are a set, from the least
abbrev pub RanksRise : Type 0
RanksRise =
    (s : State) (orders : List CallOrder) (bars : List ℕ) (h : ℕ)
    → IsStrictlyIncreasing (demanded_ranks s orders bars h)

-- each is from 1 to the bar
abbrev pub RanksStandBelowBars : Type 0
RanksStandBelowBars =
    (s : State) (orders : List CallOrder) (bars : List ℕ) (h r : ℕ)
    → IsTrue (is_among r (demanded_ranks s orders bars h))
    → (1 ≤ r) × (r ≤ slice_index bars h)

-- one that is demanded under higher bars, and is at most the lower bar, is demanded under the lower
-- bars
abbrev pub RanksStayDemanded : Type 0
RanksStayDemanded =
    (s : State) (orders : List CallOrder) (lower upper : List ℕ)
    → IsAtMost lower upper
    → (h r : ℕ)
    → IsTrue (is_among r (demanded_ranks s orders upper h))
    → r ≤ slice_index lower h
    → IsTrue (is_among r (demanded_ranks s orders lower h))

-- an open wish stays open as bars rise
abbrev pub WishesStayOpen : Type 0
WishesStayOpen =
    (s : State) (lower upper : List ℕ)
    → IsAtMost lower upper
    → (w : Wish) (m : Mark)
    → IsTrue (is_open s lower w m)
    → IsTrue (is_open s upper w m)

-- no more stand ahead of a wish as bars fall
abbrev pub NoMoreStandAhead : Type 0
NoMoreStandAhead =
    (s : State) (orders : List CallOrder) (lower upper : List ℕ) → IsAtMost lower upper → (w : Wish)
    → ahead s orders lower w ≤ ahead s orders upper w

-- a proposed wish that stays open stays proposed as bars fall
abbrev pub WishesStayProposed : Type 0
WishesStayProposed =
    (s : State) (orders : List CallOrder) (lower upper : List ℕ)
    → IsAtMost lower upper
    → (w : Wish) (m : Mark)
    → IsTrue (is_proposed s orders upper w m)
    → IsTrue (is_open s lower w m)
    → IsTrue (is_proposed s orders lower w m)

-- whichever overfilled schools fall, the bars end at the greatest
abbrev pub RunsEndAtGreatest : Type 0
RunsEndAtGreatest =
    (s : State) (orders : List CallOrder) (ceilings : List ℕ) (falls : List Fall)
    → IsRunOfFalls (boarding s orders ceilings) falls
    → IsGreatest (boarding s orders ceilings) (bars_after ceilings falls)

-- under the greatest bars a place whose bar is below its ceiling has as many demanded ranks as free
-- beds
abbrev pub LoweredBarsAreFull : Type 0
LoweredBarsAreFull =
    (sys : FallingSystem)
    → IsLawful sys
    → (bars : List ℕ)
    → IsGreatest sys bars
    → (i : ℕ)
    → slice_index bars i < slice_index sys.ceilings i
    → length (sys.ranks bars i) ≡ slice_index sys.free i

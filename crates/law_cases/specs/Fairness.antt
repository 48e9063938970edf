-- Witnesses of what the rules promise a candidate, on dossiers that also show what they do not.
use Rattle.std.specs.Prelude.{◌≡◌, ℕ, ◌≤◌, ◌<◌, true, false, ◌&&◌, List, [], ◌∷◌, slice_get, slice_index, Some}
use Rattle.std.specs.Prelude.{Contains, IsTrue}
use Rattle.admit_core.specs.declared.dossier.Wish.{Wish}
use Rattle.admit_core.specs.declared.ranking.Bound.TheVariants.{Alone, Both, Free, Resident, Scholar}
use Rattle.admit_core.specs.declared.ranking.CallOrder.{CallOrder}
use Rattle.admit_core.specs.declared.ranking.RankGroup.{RankGroup}
use Rattle.admit_core.specs.declared.ranking.Ranked.{Ranked}
use Rattle.admit_core.specs.declared.state.Mark.{Mark}
use Rattle.admit_core.specs.declared.state.Stamp.{Stamp}
use Rattle.admit_core.specs.declared.state.Status.TheVariants.{Waiting}
use Rattle.admit_core.specs.Boarding.{boarding}
use Rattle.admit_core.specs.CallOrder.{IsCallOrder}
use Rattle.admit_core.specs.Days.{first_evening, offered}
use Rattle.admit_core.specs.Falls.{IsGreatest}
use Rattle.admit_core.specs.Lists.{is_among}
use Rattle.admit_core.specs.Proposals.{before, is_barred, is_open, is_proposed}
use Rattle.admit_core.specs.Standing.{dossier_of}
use Rattle.admit_core.specs.State.{State, has_school}
use Rattle.admit_core.specs.Validity.{IsRanking, IsValid}
use Rattle.admit_core.specs.WorkedRows.{boarder, first_pass, greatest_bar, greatest_bar_orders, group, limit_state}
use Rattle.admit_core.specs.WorkedRows.{morning, order, ranked, realistic_group, realistic_order, wish}
use Rattle.fairness.specs.Exchanges.{AreNeighbours, IsMovedUp, exchanged_in, with_ranks_exchanged}
use Rattle.fairness.specs.NotPromised.{plain, with_first_school, with_second_ranking}
use Rattle.fairness.specs.OrderPromises.{IsBetterFor, IsCalledNoLater}
use Rattle.fairness.specs.PassPromises.{GoToBetterRanks}
use Rattle.round.specs.PassLaws.{new_bed_holders, new_seat_holders}
use Rattle.law_cases.specs.Bars.{first_rank}

-- ---- call orders
-- 101 and 104 have neither flag; 102, a resident scholar, is called before both
abbrev pub CallsEachKindByRankWitness : Type 0
CallsEachKindByRankWitness =
    let g : RankGroup = realistic_group in
    let order : CallOrder = realistic_order in
    let r : Ranked = ranked 101 1 false false in
    let s : Ranked = ranked 104 4 false false in
    let i : ℕ = 1 in
    let j : ℕ = 3 in
    IsRanking g × IsCallOrder g order
    × Contains g.list r × Contains g.list s × (r.scholar ≡ s.scholar)
    × (r.resident ≡ s.resident)
    × (slice_get order.list i ≡ Some r.candidate) × (slice_get order.list j ≡ Some s.candidate)
    × (r.rank < s.rank) × (i < j)

abbrev pub CallsResidentScholarsByRankWitness : Type 0
CallsResidentScholarsByRankWitness =
    let g : RankGroup = realistic_group in
    let order : CallOrder = realistic_order in
    let s : Ranked = ranked 102 2 true true in
    let k : ℕ = 1 in
    let i : ℕ = 0 in
    IsRanking g × IsCallOrder g order
    × (slice_get g.list k ≡ Some s) × ((s.scholar && s.resident) ≡ true)
    × (slice_get order.list i ≡ Some s.candidate) × (i ≤ k)

-- 11 as no scholar, and as one
abbrev pub BetterIsNeverLaterWitness : Type 0
BetterIsNeverLaterWitness =
    let r : Ranked = ranked 11 2 false true in
    let now : Ranked = ranked 11 2 true true in
    let g : RankGroup =
    group 50 50 (ranked 13 1 false false ∷ r ∷ ranked 12 3 true false ∷ []) in
    let better : RankGroup =
    group 50 50 (ranked 13 1 false false ∷ now ∷ ranked 12 3 true false ∷ []) in
    let order : CallOrder = order (12 ∷ 11 ∷ 13 ∷ []) (Alone ∷ Resident ∷ Free ∷ []) in
    let better_order : CallOrder =
    record { list = 11 ∷ 13 ∷ 12 ∷ []; trace = Both ∷ Free ∷ Scholar ∷ [] } in
    IsRanking g × IsRanking better × IsCallOrder g order × IsCallOrder better better_order
    × IsBetterFor g better r now
    × IsCalledNoLater r.candidate order better_order

-- 11 by rank 3, and by rank 2 between the two others
abbrev pub BetterIsNeverLaterOtherWitness : Type 0
BetterIsNeverLaterOtherWitness =
    let r : Ranked = ranked 11 3 false false in
    let now : Ranked = ranked 11 2 false false in
    let g : RankGroup =
    group 0 0 (ranked 12 1 false false ∷ ranked 13 2 false false ∷ r ∷ []) in
    let better : RankGroup =
    group 0 0 (ranked 12 1 false false ∷ now ∷ ranked 13 3 false false ∷ []) in
    let order : CallOrder = plain (12 ∷ 13 ∷ 11 ∷ []) in
    let better_order : CallOrder = plain (12 ∷ 11 ∷ 13 ∷ []) in
    IsRanking g × IsRanking better × IsCallOrder g order × IsCallOrder better better_order
    × IsBetterFor g better r now
    × IsCalledNoLater r.candidate order better_order

-- ---- passes
-- 22 has no seat, which 21 takes
abbrev pub NobodyIsPassedOverWitness : Type 0
NobodyIsPassedOverWitness =
    let s : State = greatest_bar in
    let orders : List CallOrder = greatest_bar_orders in
    let bars : List ℕ = 2 ∷ [] in
    let stamp : Stamp = first_pass in
    let w : Wish = first_rank in
    let m : Mark = morning Waiting in
    let c : ℕ = 21 in
    IsTrue (is_open s bars w m) × (is_proposed s orders bars w m ≡ false)
    × IsTrue (is_among c (new_seat_holders s (offered s orders bars stamp) w.programme))
    × IsTrue (is_among c (before s orders w))

-- 13 stands past the call limit, by which 12 is called
abbrev pub NobodyIsPassedOverOtherWitness : Type 0
NobodyIsPassedOverOtherWitness =
    let s : State = limit_state in
    let orders : List CallOrder = plain (11 ∷ 12 ∷ 13 ∷ []) ∷ [] in
    let bars : List ℕ = [] in
    let stamp : Stamp = first_pass in
    let w : Wish = wish 3 13 0 0 in
    let m : Mark = morning Waiting in
    let c : ℕ = 12 in
    IsTrue (is_open s bars w m) × (is_proposed s orders bars w m ≡ false)
    × IsTrue (is_among c (new_seat_holders s (offered s orders bars stamp) w.programme))
    × IsTrue (is_among c (before s orders w))

-- two programmes with a ranking each, and one bed
abbrev pub two_rankings : State
two_rankings = first_evening (dossier_of (with_second_ranking (11 ∷ 13 ∷ 12 ∷ [])))

abbrev pub two_plain_orders : List CallOrder
two_plain_orders = plain (12 ∷ 13 ∷ 11 ∷ []) ∷ plain (11 ∷ 13 ∷ 12 ∷ []) ∷ []

-- 12, of rank 3, is barred by the bar 2, and the bed goes to 11, of rank 1
abbrev pub NoBedGoesToWorseRankWitness : Type 0
NoBedGoesToWorseRankWitness =
    let s : State = two_rankings in
    let orders : List CallOrder = two_plain_orders in
    let ceilings : List ℕ = 9 ∷ [] in
    let bars : List ℕ = 2 ∷ [] in
    let stamp : Stamp = first_pass in
    let w : Wish = boarder 3 12 0 0 3 0 in
    let m : Mark = morning Waiting in
    let h : ℕ = 0 in
    IsValid s.dossier × IsGreatest (boarding s orders ceilings) bars
    × IsTrue (has_school w h) × IsTrue (is_barred s bars w m)
    × (slice_index bars h < slice_index ceilings h)
    × GoToBetterRanks s (offered s orders bars stamp) h w

abbrev pub GoToBetterRanksBetterWitness : Type 0
GoToBetterRanksBetterWitness =
    let s : State = two_rankings in
    let new : State = offered s two_plain_orders (2 ∷ []) first_pass in
    let h : ℕ = 0 in
    let w : Wish = boarder 3 12 0 0 3 0 in
    let c : ℕ = 11 in
    let v : Wish = boarder 2 11 1 0 1 0 in
    IsTrue (is_among c (new_bed_holders s new h))
    × Contains s.dossier.wishes v × (v.candidate ≡ c) × IsTrue (has_school v h)
    × (v.board_rank < w.board_rank)

-- ---- exchanges
-- 13 goes before 12 in the first programme, and keeps its offer: the bar, which had fallen for 12
-- and 11, stays at its ceiling, since 12 has no seat any more
abbrev pub BetterPositionCostsNoOfferWitness : Type 0
BetterPositionCostsNoOfferWitness =
    let s : State = two_rankings in
    let orders : List CallOrder = two_plain_orders in
    let moved : List CallOrder =
    plain (13 ∷ 12 ∷ 11 ∷ []) ∷ plain (11 ∷ 13 ∷ 12 ∷ []) ∷ [] in
    let ceilings : List ℕ = 9 ∷ [] in
    let bars : List ℕ = 2 ∷ [] in
    let moved_bars : List ℕ = 9 ∷ [] in
    let w : Wish = wish 5 13 0 0 in
    let m : Mark = morning Waiting in
    IsValid s.dossier
    × IsMovedUp s.dossier orders moved w.programme w.candidate
    × IsGreatest (boarding s orders ceilings) bars
    × IsGreatest (boarding s moved ceilings) moved_bars
    × IsTrue (is_proposed s orders bars w m) × IsTrue (is_proposed s moved moved_bars w m)

-- two schools with a bed each, and the last programme with two seats
abbrev pub two_schools : State
two_schools = first_evening (dossier_of (with_first_school (12 ∷ 11 ∷ 13 ∷ [])))

abbrev pub two_school_orders : List CallOrder
two_school_orders = plain (13 ∷ 11 ∷ 12 ∷ []) ∷ plain (12 ∷ 11 ∷ 13 ∷ []) ∷ []

-- 13 goes before 11 in the last programme, and keeps the offer with the second school
abbrev pub BetterPositionCostsNoOfferOtherWitness : Type 0
BetterPositionCostsNoOfferOtherWitness =
    let s : State = two_schools in
    let orders : List CallOrder = two_school_orders in
    let moved : List CallOrder =
    plain (13 ∷ 11 ∷ 12 ∷ []) ∷ plain (12 ∷ 13 ∷ 11 ∷ []) ∷ [] in
    let ceilings : List ℕ = 9 ∷ 9 ∷ [] in
    let bars : List ℕ = 2 ∷ 9 ∷ [] in
    let moved_bars : List ℕ = 2 ∷ 9 ∷ [] in
    let w : Wish = boarder 5 13 1 1 2 0 in
    let m : Mark = morning Waiting in
    IsValid s.dossier
    × IsMovedUp s.dossier orders moved w.programme w.candidate
    × IsGreatest (boarding s orders ceilings) bars
    × IsGreatest (boarding s moved ceilings) moved_bars
    × IsTrue (is_proposed s orders bars w m) × IsTrue (is_proposed s moved moved_bars w m)

-- 11 changes ranks with 12 in the first school, and keeps its bed
abbrev pub BetterBoardingRankCostsNoOfferWitness : Type 0
BetterBoardingRankCostsNoOfferWitness =
    let s : State = two_schools in
    let orders : List CallOrder = two_school_orders in
    let ceilings : List ℕ = 9 ∷ 9 ∷ [] in
    let bars : List ℕ = 2 ∷ 9 ∷ [] in
    let moved_bars : List ℕ = 2 ∷ 9 ∷ [] in
    let w : Wish = boarder 1 11 0 0 2 0 in
    let m : Mark = morning Waiting in
    let h : ℕ = 0 in
    let better : ℕ = 1 in
    IsValid s.dossier × Contains s.dossier.wishes w × IsTrue (has_school w h)
    × AreNeighbours s h better w.board_rank
    × IsGreatest (boarding s orders ceilings) bars
    × IsGreatest (boarding (with_ranks_exchanged s h better w.board_rank) orders ceilings)
    moved_bars
    × IsTrue (is_proposed s orders bars w m)
    × IsTrue (is_proposed (with_ranks_exchanged s h better w.board_rank) orders moved_bars
    (exchanged_in h better w.board_rank w) m)

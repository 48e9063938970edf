-- Witnesses of the laws of call orders.
use Rattle.std.specs.Prelude.{◌≡◌, ◌≢◌, ℕ, ◌≤◌, ◌<◌, ◌*◌, true, false, Bool, ◌&&◌, List, [], ◌∷◌, length, take}
use Rattle.std.specs.Prelude.{slice_get, Some, Contains}
use Rattle.std.specs.List.{count_by, list_any}
use Rattle.std.specs.List.Sorted.{IsPermutation}
use Rattle.admit_core.specs.declared.ranking.Bound.TheVariants.{Alone, Both, Free, Resident, Scholar}
use Rattle.admit_core.specs.declared.ranking.CallOrder.{CallOrder}
use Rattle.admit_core.specs.declared.ranking.RankGroup.{RankGroup}
use Rattle.admit_core.specs.declared.ranking.Ranked.{Ranked}
use Rattle.admit_core.specs.CallOrder.{IsCallOrder, called, remaining}
use Rattle.admit_core.specs.CallOrderLaws.{HasLesserRank, IsLeastThatKeeps, KeepsOrderLaws, KeepsRate, KeepsRateAfter}
use Rattle.admit_core.specs.CallOrderLaws.{ranked_candidates}
use Rattle.admit_core.specs.Validity.{IsRanking}
use Rattle.admit_core.specs.WorkedRows.{four, group, order, ranked, realistic_group, realistic_order}

-- both rates bind by turns, and a resident scholar is there
abbrev pub CallOrdersKeepLawsWitness : Type 0
CallOrdersKeepLawsWitness =
    let g : RankGroup = realistic_group in
    let order : CallOrder = realistic_order in
    IsRanking g × IsCallOrder g order × KeepsOrderLaws g order

-- scholarship alone rules at the first call
abbrev pub CallOrdersKeepLawsOtherWitness : Type 0
CallOrdersKeepLawsOtherWitness =
    let g : RankGroup =
    group 50 50
    (ranked 1 1 false false ∷ ranked 2 2 true false ∷ ranked 3 3 false true ∷ []) in
    let order : CallOrder = order (2 ∷ 3 ∷ 1 ∷ []) (Alone ∷ Resident ∷ Free ∷ []) in
    IsRanking g × IsCallOrder g order × KeepsOrderLaws g order

abbrev pub EachRankingHasOneOrderWitness : Type 0
EachRankingHasOneOrderWitness =
    let g : RankGroup = realistic_group in
    IsRanking g × (order : CallOrder) × IsCallOrder g order
    × ((other : CallOrder) → IsCallOrder g other → other ≡ order)

abbrev pub KeepsOrderLawsOnlyWitness : Type 0
KeepsOrderLawsOnlyWitness =
    let g : RankGroup = realistic_group in
    let order : CallOrder = realistic_order in
    let other : CallOrder =
    record {
      list = 102 ∷ 101 ∷ 103 ∷ 104 ∷ [];
      trace = Both ∷ Free ∷ Resident ∷ Free ∷ [];
    } in
    IsCallOrder g other × (other ≡ order)

-- one resident of two who were called, and a rate of 50: as many as the rate asks
abbrev pub KeepsRateAfterWitness : Type 0
KeepsRateAfterWitness =
    let rate : ℕ = 50 in
    let kind : Ranked → Bool = λ r. r.resident in
    let g : RankGroup = realistic_group in
    let before : List ℕ = 102 ∷ 101 ∷ [] in
    (list_any kind (remaining g before) ≡ true)
    × (rate * length before ≤ 100 * count_by kind (called g before))

abbrev pub KeepsResidentRateWitness : Type 0
KeepsResidentRateWitness =
    let g : RankGroup = realistic_group in
    let order : CallOrder = realistic_order in
    let n : ℕ = 2 in
    ((k : ℕ) → k < n → slice_get order.trace k ≢ Some Alone)
    × KeepsRateAfter g.resident_pct (λ r. r.resident) g (take n order.list)

-- without rates a resident scholar is called after one who has a better rank
abbrev pub CallsResidentScholarsFirstWitness : Type 0
CallsResidentScholarsFirstWitness =
    let g : RankGroup = group 0 0 four in
    let order : CallOrder = order (1 ∷ 2 ∷ 3 ∷ 4 ∷ []) (Free ∷ Free ∷ Free ∷ Free ∷ []) in
    let r : Ranked = ranked 1 1 false false in
    let s : Ranked = ranked 4 4 true true in
    let i : ℕ = 0 in
    let j : ℕ = 3 in
    Contains g.list r × Contains g.list s
    × (slice_get order.list i ≡ Some r.candidate) × (slice_get order.list j ≡ Some s.candidate)
    × (i < j) × ((s.scholar && s.resident) ≡ true) × (r.rank < s.rank)

-- ---- of two lists that keep a scholars' rate of 100 the call order has the lesser rank
abbrev pub scholars_first : RankGroup
scholars_first =
    group 100 0
    (ranked 1 1 false false ∷ ranked 2 2 true false ∷ ranked 3 3 false false ∷ ranked 4 4 true false
    ∷ [])

abbrev pub HasLesserRankWitness : Type 0
HasLesserRankWitness =
    let g : RankGroup = scholars_first in
    let one : List ℕ = 2 ∷ 4 ∷ 1 ∷ 3 ∷ [] in
    let other : List ℕ = 2 ∷ 4 ∷ 3 ∷ 1 ∷ [] in
    let k : ℕ = 2 in
    let r : Ranked = ranked 1 1 false false in
    let s : Ranked = ranked 3 3 false false in
    (take k one ≡ take k other) × Contains g.list r × Contains g.list s
    × (slice_get one k ≡ Some r.candidate) × (slice_get other k ≡ Some s.candidate)
    × (r.candidate ≢ s.candidate) × (r.rank < s.rank)

abbrev pub IsLeastThatKeepsWitness : Type 0
IsLeastThatKeepsWitness =
    let rate : ℕ = 100 in
    let kind : Ranked → Bool = λ r. r.scholar in
    let g : RankGroup = scholars_first in
    let list : List ℕ = 2 ∷ 4 ∷ 1 ∷ 3 ∷ [] in
    let other : List ℕ = 2 ∷ 4 ∷ 3 ∷ 1 ∷ [] in
    IsPermutation (ranked_candidates g) other × KeepsRate rate kind g other
    × HasLesserRank g list other

abbrev pub IsLeastByScholarsWitness : Type 0
IsLeastByScholarsWitness =
    let g : RankGroup = scholars_first in
    let order : CallOrder =
    order (2 ∷ 4 ∷ 1 ∷ 3 ∷ []) (Scholar ∷ Scholar ∷ Free ∷ Free ∷ []) in
    (g.resident_pct ≡ 0) × IsLeastThatKeeps g.scholar_pct (λ r. r.scholar) g order.list

abbrev pub IsLeastByResidentsWitness : Type 0
IsLeastByResidentsWitness =
    let g : RankGroup =
    group 0 100 (ranked 1 1 false false ∷ ranked 2 2 false true ∷ []) in
    let order : CallOrder = order (2 ∷ 1 ∷ []) (Resident ∷ Free ∷ []) in
    (g.scholar_pct ≡ 0) × IsLeastThatKeeps g.resident_pct (λ r. r.resident) g order.list

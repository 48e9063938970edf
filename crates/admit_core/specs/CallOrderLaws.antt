-- Laws of call orders.
use Rattle.std.specs.Prelude.{◌≡◌, ◌≢◌, ℕ, ◌*◌, ◌≤◌, ◌<◌, Bool, true, ◌&&◌, List, map, length, take, slice_get, Some}
use Rattle.std.specs.Prelude.{nat_eq, count_by, Contains}
use Rattle.std.specs.List.{list_any, IsDistinct}
use Rattle.std.specs.List.Sorted.{IsPermutation}
use Rattle.admit_core.specs.declared.ranking.Ranked.{Ranked}
use Rattle.admit_core.specs.declared.ranking.RankGroup.{RankGroup}
use Rattle.admit_core.specs.declared.ranking.Bound.TheVariants.{Alone}
use Rattle.admit_core.specs.declared.ranking.CallOrder.{CallOrder}
use Rattle.admit_core.specs.Lists.{is_among}
use Rattle.admit_core.specs.CallOrder.{called, remaining, IsCallOrder}
use Rattle.admit_core.specs.Validity.{IsRanking}

-- the candidates of a ranking, by rank
abbrev pub ranked_candidates : RankGroup → List ℕ
ranked_candidates g = map (λ r. r.candidate) g.list

-- while some of a kind remain, they are at least the rate's part of those called so far
abbrev pub KeepsRateAfter : ℕ → (Ranked → Bool) → RankGroup → List ℕ → Type 0
KeepsRateAfter rate kind g before =
    list_any kind (remaining g before) ≡ true
    → rate * length before ≤ 100 * count_by kind (called g before)

-- each prefix of a list keeps a rate
abbrev pub KeepsRate : ℕ → (Ranked → Bool) → RankGroup → List ℕ → Type 0
KeepsRate rate kind g list = (n : ℕ) → KeepsRateAfter rate kind g (take n list)

abbrev pub KeepsScholarRate : RankGroup → CallOrder → Type 0
KeepsScholarRate g order = KeepsRate g.scholar_pct (λ r. r.scholar) g order.list

-- the residents' rate is kept up to the first position at which scholarship alone ruled
abbrev pub KeepsResidentRate : RankGroup → CallOrder → Type 0
KeepsResidentRate g order =
    (n : ℕ) → ((k : ℕ) → k < n → slice_get order.trace k ≢ Some Alone)
    → KeepsRateAfter g.resident_pct (λ r. r.resident) g (take n order.list)

-- nobody of greater rank is called before a resident scholar
abbrev pub CallsResidentScholarsFirst : RankGroup → CallOrder → Type 0
CallsResidentScholarsFirst g order =
    (r s : Ranked) (i j : ℕ) → Contains g.list r → Contains g.list s
    → slice_get order.list i ≡ Some r.candidate → slice_get order.list j ≡ Some s.candidate
    → i < j → (s.scholar && s.resident) ≡ true → r.rank < s.rank

-- where two lists first differ, the first of them has the lesser rank
abbrev pub HasLesserRank : RankGroup → List ℕ → List ℕ → Type 0
HasLesserRank g one other =
    (k : ℕ) (r s : Ranked) → take k one ≡ take k other → Contains g.list r → Contains g.list s
    → slice_get one k ≡ Some r.candidate → slice_get other k ≡ Some s.candidate
    → r.candidate ≢ s.candidate → r.rank < s.rank

-- of all permutations of the ranking that keep a rate, this list is the least
abbrev pub IsLeastThatKeeps : ℕ → (Ranked → Bool) → RankGroup → List ℕ → Type 0
IsLeastThatKeeps rate kind g list =
    (other : List ℕ) → IsPermutation (ranked_candidates g) other → KeepsRate rate kind g other
    → HasLesserRank g list other

-- where the residents' rate is 0, a call order is the least that keeps the scholars' rate
abbrev pub IsLeastByScholars : RankGroup → CallOrder → Type 0
IsLeastByScholars g order =
    g.resident_pct ≡ 0 → IsLeastThatKeeps g.scholar_pct (λ r. r.scholar) g order.list

-- and where the scholars' rate is 0, the least that keeps the residents' rate
abbrev pub IsLeastByResidents : RankGroup → CallOrder → Type 0
IsLeastByResidents g order =
    g.scholar_pct ≡ 0 → IsLeastThatKeeps g.resident_pct (λ r. r.resident) g order.list

-- the laws of call orders
pub record KeepsOrderLaws (g : RankGroup) (order : CallOrder) : Type 0 where
  -- it has the candidates of its ranking, each once and nobody else
  pub permutation : IsPermutation (ranked_candidates g) order.list
  pub whole : length order.list ≡ length g.list
  pub distinct : IsDistinct nat_eq order.list
  pub candidates : (c : ℕ) → is_among c order.list ≡ is_among c (ranked_candidates g)
  -- no other order is a call order of the ranking
  pub only : (other : CallOrder) → IsCallOrder g other → other ≡ order
  -- its prefixes keep the rates
  pub scholar_rate : KeepsScholarRate g order
  pub resident_rate : KeepsResidentRate g order
  pub resident_scholars : CallsResidentScholarsFirst g order
  -- with one rate alone, it is the least that keeps it
  pub least_by_scholars : IsLeastByScholars g order
  pub least_by_residents : IsLeastByResidents g order

-- what holds of every call order of every ranking
abbrev pub OfCallOrders : (RankGroup → CallOrder → Type 0) → Type 0
OfCallOrders Holds =
    (g : RankGroup) (order : CallOrder) → IsRanking g → IsCallOrder g order → Holds g order

abbrev pub CallOrdersKeepLaws : Type 0
CallOrdersKeepLaws = OfCallOrders KeepsOrderLaws

-- each ranking has exactly one call order
abbrev pub EachRankingHasOneOrder : Type 0
EachRankingHasOneOrder =
    (g : RankGroup) → IsRanking g → (order : CallOrder) × IsCallOrder g order
    × ((other : CallOrder) → IsCallOrder g other → other ≡ order)

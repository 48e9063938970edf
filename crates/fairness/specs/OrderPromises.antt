-- What a call order promises to a candidate.
use Rattle.std.specs.Prelude.{◌≡◌, ℕ, ◌≤◌, ◌<◌, true, not, ◌&&◌, List, map, take, filter, nat_eq, slice_get, Some}
use Rattle.std.specs.Prelude.{Contains, IsTrue}
use Rattle.std.specs.List.{position_or_len}
use Rattle.admit_core.specs.declared.ranking.CallOrder.{CallOrder}
use Rattle.admit_core.specs.declared.ranking.RankGroup.{RankGroup}
use Rattle.admit_core.specs.declared.ranking.Ranked.{Ranked}
use Rattle.admit_core.specs.CallOrder.{IsCallOrder}
use Rattle.admit_core.specs.CallOrderLaws.{ranked_candidates}
use Rattle.admit_core.specs.Validity.{IsRanking}

-- of two candidates alike in both flags the one of better rank is called first
abbrev pub CallsEachKindByRank : RankGroup → CallOrder → Type 0
CallsEachKindByRank g order =
    (r s : Ranked) (i j : ℕ) → Contains g.list r → Contains g.list s → r.scholar ≡ s.scholar
    → r.resident ≡ s.resident
    → slice_get order.list i ≡ Some r.candidate → slice_get order.list j ≡ Some s.candidate
    → r.rank < s.rank → i < j

-- a resident scholar is called no later than their rank says
abbrev pub CallsResidentScholarsByRank : RankGroup → CallOrder → Type 0
CallsResidentScholarsByRank g order =
    (s : Ranked) (k i : ℕ) → slice_get g.list k ≡ Some s → (s.scholar && s.resident) ≡ true
    → slice_get order.list i ≡ Some s.candidate → i ≤ k

-- a row without its rank
abbrev pub unranked : Ranked → Ranked
unranked r = record r { rank = 0 }

-- the other candidates of a ranking, in its order, without their ranks
abbrev pub others_than : ℕ → RankGroup → List Ranked
others_than c g = map unranked (filter (λ r. not (nat_eq c r.candidate)) g.list)

-- how many stand before a candidate in a list
abbrev pub place_in : List ℕ → ℕ → ℕ
place_in list c = position_or_len (nat_eq c) list

-- two rankings alike but for one candidate, who has a better rank in the second or the same one,
-- and has all flags there that they have in the first
pub record IsBetterFor (g better : RankGroup) (r now : Ranked) : Type 0 where
  pub scholar_pct : better.scholar_pct ≡ g.scholar_pct
  pub resident_pct : better.resident_pct ≡ g.resident_pct
  pub others : others_than r.candidate better ≡ others_than r.candidate g
  pub ranked : Contains g.list r
  pub ranked_now : Contains better.list now
  pub same : now.candidate ≡ r.candidate
  pub rank : place_in (ranked_candidates better) r.candidate
      ≤ place_in (ranked_candidates g) r.candidate
  pub scholar : IsTrue r.scholar → IsTrue now.scholar
  pub resident : IsTrue r.resident → IsTrue now.resident

-- a candidate's position in the better call order is no later, and the calls before it are as they
-- were
pub record IsCalledNoLater (c : ℕ) (order better : CallOrder) : Type 0 where
  pub no_later : place_in better.list c ≤ place_in order.list c
  pub same_before : take (place_in better.list c) better.list
      ≡ take (place_in better.list c) order.list

-- to be better never means to be called later
abbrev pub BetterIsNeverLater : Type 0
BetterIsNeverLater =
    (g better : RankGroup) (r now : Ranked) (order better_order : CallOrder)
    → IsRanking g → IsRanking better → IsCallOrder g order → IsCallOrder better better_order
    → IsBetterFor g better r now
    → IsCalledNoLater r.candidate order better_order

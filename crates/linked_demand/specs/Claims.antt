-- Where a candidate's wishes stand in a list by candidate.
use Rattle.std.specs.Prelude.{◌≡◌, ℕ, ◌-◌, ◌≤◌, ◌<◌, ◌^◌, Bool, true, false, ◌&&◌, ◌||◌, ◌==◌, List, length, map}
use Rattle.std.specs.Prelude.{filter, nat_eq, nat_lt, nat_le, Some, slice_get, slice_index, All, Vec}
use Rattle.std.specs.declared.alloc.Global.{Global}
use Rattle.std.specs.List.Sorted.{IsNonDecreasingBy, IsPartitionPoint}
use Rattle.admit_core.specs.DossierRows.{DossierRows}
use Rattle.day_state.specs.Kept.{candidate_in, wish_in}
use Rattle.day_state.specs.declared.spans.Span.{Span}
use Rattle.linked_demand.specs.Called.{group_claim}
use Rattle.linked_demand.specs.declared.wishing.Application.{Application}

-- in a list that does not fall, the span begins at the first number that is not below this one, and
-- ends at the first that is above
pub record IsSpanOf (xs : List ℕ) (c : ℕ) (span : Span) : Type 0 where
  pub begins : span.from ≤ length xs
  pub ends : span.to ≤ length xs
  pub lower : IsPartitionPoint (λ k. nat_lt k c ≡ true) (λ k. nat_lt k c ≡ false) xs span.from
  pub upper : IsPartitionPoint (λ k. nat_le k c ≡ true) (λ k. nat_le k c ≡ false) xs span.to

-- in a list that does not fall, what stands before a place is below a number
abbrev pub lower_before : List ℕ → ℕ → ℕ → Bool
lower_before xs c k = nat_eq k 0 || nat_lt (slice_index xs (k - 1)) c

-- and the number stands at the place
abbrev pub begins_at : List ℕ → ℕ → ℕ → Bool
begins_at xs c k = nat_lt k (length xs) && (nat_eq (slice_index xs k) c && lower_before xs c k)

-- the wishes for the programmes of a group, by candidate: each candidate's stand together
pub record AreWishesIn (d : DossierRows) (g : ℕ) (wishes : List ℕ) : Type 0 where
  pub few : length wishes < 2 ^ 32
  pub within : All (λ k. k < length d.wishes) wishes
  pub rises : IsNonDecreasingBy (candidate_in d.wishes) wishes
  pub own : (c : ℕ) → filter (λ k. candidate_in d.wishes k == c) wishes ≡ group_claim d g c

-- the wish at a place, with its programme and its candidate
abbrev pub application_at : DossierRows → ℕ → Application
application_at d k = record {
  wish = k;
  programme = (wish_in d.wishes k).programme;
  candidate = candidate_in d.wishes k;
}

-- the places of wishes
abbrev pub wishes_of : List Application → List ℕ
wishes_of xs = map (λ a. a.wish) xs

-- and their candidates
abbrev pub candidates_of : List Application → List ℕ
candidates_of xs = map (λ a. a.candidate) xs

-- the wishes for the programmes of a group, each with its programme and its candidate
pub record AreApplicationsIn (d : DossierRows) (g : ℕ) (applications : List Application) : Type 0 where
  pub of_group : AreWishesIn d g (wishes_of applications)
  pub each : applications ≡ map (application_at d) (wishes_of applications)

-- a list for each group; from one on they are the wishes for its programmes
pub record AreApplicationsFrom (d : DossierRows) (n : ℕ)
    (rows : List (Vec Application Global)) : Type 0 where
  pub one_each : length rows ≡ length d.groups
  pub each : (g : ℕ) (row : Vec Application Global) → n ≤ g → slice_get rows g ≡ Some row
      → AreApplicationsIn d g row.items

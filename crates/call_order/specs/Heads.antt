-- Where the queue of each kind begins in a list.
use Rattle.std.specs.Prelude.{◌≡◌, ℕ, ◌+◌, ◌≤◌, List, [], ◌∷◌, length, drop, map, min, slice_get, nat_le, if◌then◌else◌}
use Rattle.std.specs.List.Sorted.{IsStrictlyIncreasing}
use Rattle.admit_core.specs.declared.ranking.Ranked.{Ranked}
use Rattle.admit_core.specs.declared.ranking.Bound.{Bound}
use Rattle.admit_core.specs.declared.ranking.Bound.TheVariants.{Free, Scholar, Resident, Both, Alone}
use Rattle.call_order.specs.declared.kind.Kind.{Kind}
use Rattle.call_order.specs.declared.kind.Kind.TheVariants.{Neither, ScholarOnly, ResidentOnly, BothKinds}
use Rattle.call_order.specs.declared.heads.Heads.{Heads}
use Rattle.call_order.specs.Kinds.{kind_of, head_of}

-- the place of a kind's head
abbrev pub place_of : Heads → Kind → ℕ
place_of heads Neither = heads.neither
place_of heads ScholarOnly = heads.scholar_only
place_of heads ResidentOnly = heads.resident_only
place_of heads BothKinds = heads.both_kinds

-- the first place of the kinds that a bound lets be called
abbrev pub first_place : Heads → Bound → ℕ
first_place heads Free =
    min (min heads.neither heads.scholar_only) (min heads.resident_only heads.both_kinds)
first_place heads Scholar = min heads.scholar_only heads.both_kinds
first_place heads Resident = min heads.resident_only heads.both_kinds
first_place heads Both = heads.both_kinds
first_place heads Alone = min heads.scholar_only heads.both_kinds

-- one kind's head moved
abbrev pub moved : Heads → Kind → ℕ → Heads
moved heads Neither place = record heads { neither = place }
moved heads ScholarOnly place = record heads { scholar_only = place }
moved heads ResidentOnly place = record heads { resident_only = place }
moved heads BothKinds place = record heads { both_kinds = place }

-- those of a list, whose first has the place n, who do not stand before the place from which their
-- kind remains
abbrev pub standing : {X : Type 0} → (X → ℕ) → ℕ → List X → List X
standing from n [] = []
standing from n (x ∷ xs) =
    if nat_le (from x) n then (x ∷ standing from (n + 1) xs) else standing from (n + 1) xs

-- those who stand at the head of their kind or behind it
abbrev pub remaining_of : Heads → List Ranked → List Ranked
remaining_of heads list = standing (λ r. place_of heads (kind_of r)) 0 list

-- each kind's head is the first of the kind from its place on; all were taken or remain; there is
-- room for all; ranks ascend along the list, and so they do among those who remain
pub record AreHeads (heads : Heads) (list : List Ranked) (taken capacity : ℕ) : Type 0 where
  pub first : (kind : Kind) → head_of kind (drop (place_of heads kind) list)
      ≡ slice_get list (place_of heads kind)
  pub count : taken + length (remaining_of heads list) ≡ length list
  pub room : length list ≤ capacity
  pub all_ranks : IsStrictlyIncreasing (map (λ r. r.rank) list)
  pub ranks : IsStrictlyIncreasing (map (λ r. r.rank) (remaining_of heads list))

-- The wishes for the programmes in call order.
use Rattle.std.specs.Prelude.{◌≡◌, ℕ, ◌≤◌, Bool, List, [], length, filter, nat_eq, ◌==◌, Some, option_map, slice_get}
use Rattle.std.specs.Prelude.{unwrap_or, Vec}
use Rattle.std.specs.declared.alloc.Global.{Global}
use Rattle.std.specs.List.{before_first, flat_map, range_with_len}
use Rattle.admit_core.specs.declared.ranking.CallOrder.{CallOrder}
use Rattle.admit_core.specs.DossierRows.{DossierRows, group_of}
use Rattle.admit_core.specs.OwnWishes.{own_places}
use Rattle.admit_core.specs.Proposals.{order_of}
use Rattle.day_state.specs.Kept.{wish_in}
use Rattle.linked_demand.specs.Links.{claim_of}
use Rattle.linked_demand.specs.Opens.{line_of}

-- the call order of a group
abbrev pub order_at : List CallOrder → ℕ → List ℕ
order_at orders g = unwrap_or (option_map (λ o. o.list) (slice_get orders g)) []

-- the wish at a place is for a programme of the group
abbrev pub is_of_group : DossierRows → ℕ → ℕ → Bool
is_of_group d g k = group_of d (wish_in d.wishes k).programme == g

-- the candidate's wishes for programmes of the group, by place
abbrev pub group_claim : DossierRows → ℕ → ℕ → List ℕ
group_claim d g c = filter (is_of_group d g) (own_places d c)

-- the wishes for programmes of the group, by the place of their candidates in its call order
abbrev pub called_by : DossierRows → List CallOrder → ℕ → List ℕ
called_by d orders g = flat_map (group_claim d g) (order_at orders g)

-- and those of all groups
abbrev pub called_all : DossierRows → List CallOrder → ℕ → List ℕ
called_all d orders n = flat_map (called_by d orders) (range_with_len 0 n)

-- the wishes for the programme, by the place of their candidates in its call order
abbrev pub called_for : DossierRows → List CallOrder → ℕ → List ℕ
called_for d orders p = flat_map (claim_of d p) (line_of d orders p)

-- how many stand before the candidate of the wish at a place in the call order of its programme
abbrev pub before_at : DossierRows → List CallOrder → ℕ → ℕ
before_at d orders k =
    length (before_first (nat_eq (wish_in d.wishes k).candidate)
    (order_of d orders (wish_in d.wishes k).programme))

-- a list for each number below a count; from one on they are as a function says
pub record AreRowsFrom {X : Type 0} (n count : ℕ) (f : ℕ → List X)
    (rows : List (Vec X Global)) : Type 0 where
  pub one_each : length rows ≡ count
  pub each : (p : ℕ) (row : Vec X Global) → n ≤ p → slice_get rows p ≡ Some row → row.items ≡ f p

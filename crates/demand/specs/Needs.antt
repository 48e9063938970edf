-- Which wishes demand a bed, by place, and the demands of one rank.
use Rattle.std.specs.Prelude.{ℕ, Bool, not, ◌&&◌, ◌==◌, nat_lt, List, map, filter, find, option_map, unwrap_or}
use Rattle.admit_core.specs.declared.dossier.Wish.{Wish}
use Rattle.admit_core.specs.Lists.{ascending}
use Rattle.admit_core.specs.State.{State, has_school, holds_bed}
use Rattle.day_state.specs.Kept.{wish_in}
use Rattle.proposals.specs.declared.demands.Demand.{Demand}

-- the wish at a place demands a bed of the school, where it is proposed
abbrev pub needs_bed : State → ℕ → ℕ → Bool
needs_bed s h k =
    has_school (wish_in s.dossier.wishes k) h && nat_lt 0 (wish_in s.dossier.wishes k).board_rank
    && not (holds_bed s (wish_in s.dossier.wishes k).candidate h)

-- the rank of the wish at a place, with the place
abbrev pub demand_in : List Wish → ℕ → Demand
demand_in ws k = record { rank = (wish_in ws k).board_rank; wish = k }

-- whether two demands have one rank
abbrev pub same_rank : Demand → Demand → Bool
same_rank x y = x.rank == y.rank

-- the demands of a school among these places, in their order
abbrev pub demands_in : State → List ℕ → ℕ → List Demand
demands_in s places h = map (demand_in s.dossier.wishes) (filter (needs_bed s h) places)

-- the first wish of a rank
abbrev pub first_wish : List Demand → ℕ → ℕ
first_wish demands r = unwrap_or (option_map (λ x. x.wish) (find (λ x. x.rank == r) demands)) 0

-- each rank once, from the least, with the first wish that has it
abbrev pub firsts_by_rank : List Demand → List Demand
firsts_by_rank demands = map (λ r. record { rank = r; wish = first_wish demands r })
    (ascending (map (λ x. x.rank) demands))

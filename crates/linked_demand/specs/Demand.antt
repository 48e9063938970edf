-- The demanded ranks of a school, as its row tells them.
use Rattle.std.specs.Prelude.{ℕ, Bool, false, ◌&&◌, List, [], ◌∷◌, length, filter, Option, option_map}
use Rattle.std.specs.Prelude.{unwrap_or, nat_lt, slice_get, slice_index, slice_index_or, if◌then◌else◌}
use Rattle.std.specs.List.{range_with_len}
use Rattle.admit_core.specs.declared.ranking.CallOrder.{CallOrder}
use Rattle.admit_core.specs.State.{State, entries}
use Rattle.admit_core.specs.Proposals.{demanded_ranks}
use Rattle.proposals.specs.declared.demands.Demand.{Demand}
use Rattle.linked_demand.specs.declared.rows.RowWish.{RowWish}
use Rattle.linked_demand.specs.Links.{LinksRow}
use Rattle.linked_demand.specs.Opens.{is_proposed_by}

-- whether the wish at a place is proposed, by the flags
abbrev pub is_proposed_at : LinksRow → ℕ → Bool
is_proposed_at l i =
    unwrap_or (option_map
    (λ e. is_proposed_by l.state l.orders l.opens e.0 e.1 (slice_index_or l.opens i false))
    (slice_get (entries l.state) i)) false

-- the places of all wishes that are
abbrev pub all_proposed : LinksRow → List ℕ
all_proposed l = filter (is_proposed_at l) (range_with_len 0 (length l.state.dossier.wishes))

-- of those in a row who pass, the first of each rank above a last one
abbrev pub firsts : (ℕ → Bool) → ℕ → List RowWish → List Demand
firsts p last [] = []
firsts p last (x ∷ xs) =
    if nat_lt last x.rank && p x.wish
    then (record { rank = x.rank; wish = x.wish } ∷ firsts p x.rank xs) else firsts p last xs

-- the ranks above a last one of those in a row who pass, each once
abbrev pub counted : (ℕ → Bool) → ℕ → List RowWish → List ℕ
counted p last [] = []
counted p last (x ∷ xs) =
    if nat_lt last x.rank && p x.wish then (x.rank ∷ counted p x.rank xs) else counted p last xs

-- the demanded rank of a school under bars that is the first to have none of the free beds
abbrev pub over_at : State → List CallOrder → List ℕ → List ℕ → ℕ → Option ℕ
over_at s orders bars free h =
    slice_get (demanded_ranks s orders bars h) (slice_index free h)

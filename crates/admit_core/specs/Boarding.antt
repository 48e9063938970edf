-- The boarding schools of a state as a system of falling bars.
use Rattle.std.specs.Prelude.{ℕ, ◌&&◌, ◌==◌, List, map, length, find, option_map, unwrap_or}
use Rattle.std.specs.List.{enumerate_from, range_with_len}
use Rattle.admit_core.specs.declared.ranking.CallOrder.{CallOrder}
use Rattle.admit_core.specs.State.{State, entries, free_beds}
use Rattle.admit_core.specs.Proposals.{demands_bed, demanded_ranks}
use Rattle.admit_core.specs.Falls.{FallingSystem}

-- the name of a demanded rank: the least place of a wish that demands it
abbrev pub name_of : State → List CallOrder → List ℕ → ℕ → ℕ → ℕ
name_of s orders bars h r =
    unwrap_or (option_map (λ x. x.0)
    (find (λ x. demands_bed s orders bars h x.1.0 x.1.1 && (x.1.0.board_rank == r))
    (enumerate_from 0 (entries s)))) 0

-- the schools' bars under the day's ceilings, of which there is one for each school
abbrev pub boarding : State → List CallOrder → List ℕ → FallingSystem
boarding s orders ceilings =
    record {
      ceilings = ceilings;
      free = map (free_beds s) (range_with_len 0 (length ceilings));
      ranks = demanded_ranks s orders;
      name = name_of s orders;
    }

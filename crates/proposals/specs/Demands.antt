-- The demanded ranks of a school with their names.
use Rattle.std.specs.Prelude.{ℕ, List, map}
use Rattle.proposals.specs.declared.demands.Demand.{Demand}
use Rattle.admit_core.specs.declared.ranking.CallOrder.{CallOrder}
use Rattle.admit_core.specs.State.{State}
use Rattle.admit_core.specs.Proposals.{demanded_ranks}
use Rattle.admit_core.specs.Boarding.{name_of}

-- each demanded rank with its name, from the least rank
abbrev pub demands_of : State → List CallOrder → List ℕ → ℕ → List Demand
demands_of s orders bars h = map (λ r. record { rank = r; wish = name_of s orders bars h r })
    (demanded_ranks s orders bars h)

-- What chains show.
use Rattle.std.specs.Prelude.{◌≡◌, ◌↔◌, ℕ, ◌+◌, List, [], ◌∷◌, map, None}
use Rattle.admit_core.specs.declared.chain.FallLine.{FallLine}
use Rattle.admit_core.specs.declared.chain.PassChain.{PassChain}
use Rattle.admit_core.specs.declared.chain.DayChain.{DayChain}
use Rattle.admit_core.specs.declared.ranking.CallOrder.{CallOrder}
use Rattle.admit_core.specs.declared.records.Fall.{Fall}
use Rattle.admit_core.specs.declared.records.PassEnd.{PassEnd}
use Rattle.admit_core.specs.declared.state.Stamp.{Stamp}
use Rattle.admit_core.specs.State.{State}
use Rattle.admit_core.specs.Proposals.{proposed}
use Rattle.admit_core.specs.Falls.{falls_by}
use Rattle.admit_core.specs.Boarding.{boarding}
use Rattle.admit_core.specs.Days.{offered, closing, freed_after, changes, Passes}
use Rattle.admit_core.specs.Chains.{school_of_line, bars_by, closing_by, IsDayChain, day_fault}

-- a day's chain has no fault exactly where it is valid
abbrev pub NoFaultWhereValid : Type 0
NoFaultWhereValid =
    (orders : List CallOrder) (ceilings : List ℕ) (day : ℕ) (morning : State) (chain : DayChain)
    → (day_fault orders ceilings day morning chain ≡ None)
    ↔ ((evening : State) × IsDayChain orders ceilings day morning chain evening)

-- the falls that lines tell
abbrev pub falls_told : State → List CallOrder → List ℕ → List FallLine → List Fall
falls_told s orders ceilings lines =
    falls_by (boarding s orders ceilings) ceilings (map (school_of_line s) lines)

-- the pass that its lines tell, and the passes of a day
abbrev pub pass_told : State → List CallOrder → List ℕ → Stamp → PassChain → PassEnd
pass_told s orders ceilings stamp pass =
    let bars = bars_by s ceilings pass.falls in
    record {
      pass =
          record {
            bars = bars;
            falls = falls_told s orders ceilings pass.falls;
            offers = proposed
                s orders bars;
          };
      autos = changes (offered s orders bars stamp) (closing s orders bars stamp);
      freed = freed_after s orders bars stamp;
    }

abbrev pub passes_told : List CallOrder → List ℕ → ℕ → ℕ → State → List PassChain → List PassEnd
passes_told orders ceilings day k s [] = []
passes_told orders ceilings day k s (pass ∷ rest) =
    let stamp : Stamp = record { day = day; pass = k } in
    pass_told s orders ceilings stamp pass ∷ passes_told orders ceilings day (k + 1)
    (closing_by s orders ceilings stamp pass) rest

-- a valid chain tells the passes of its day, with the greatest bars of each, and leads to its
-- evening
abbrev pub ChainsTellTheDay : Type 0
ChainsTellTheDay =
    (orders : List CallOrder) (ceilings : List ℕ) (day : ℕ) (morning : State) (chain : DayChain)
    (evening : State)
    → IsDayChain orders ceilings day morning chain evening
    → Passes orders ceilings day 1 morning
    (passes_told orders ceilings day 1 morning chain.passes) evening

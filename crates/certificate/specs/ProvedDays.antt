-- Days that a chain proves.
use Rattle.std.specs.Prelude.{◌≡◌, ℕ, ◌+◌, List, [], ◌∷◌, Option, None}
use Rattle.admit_core.specs.ChainLaws.{passes_told}
use Rattle.admit_core.specs.Chains.{IsDayChain}
use Rattle.admit_core.specs.Days.{Passes, ceilings_of, morning, unfit_on}
use Rattle.admit_core.specs.State.{State}
use Rattle.admit_core.specs.declared.chain.DayChain.{DayChain}
use Rattle.admit_core.specs.declared.ranking.CallOrder.{CallOrder}
use Rattle.admit_core.specs.declared.records.Terms.{Terms}
use Rattle.certificate.specs.Checked.{state_after}

-- a day is proved: its chain is valid from this morning to this evening; and the passes that it
-- tells are those of the rules, so the last bars of each are the greatest
pub record IsProvedDay (orders : List CallOrder) (ceilings : List ℕ) (day : ℕ) (chain : DayChain)
    (old evening : State) : Type 0 where
  pub valid : IsDayChain orders ceilings day old chain evening
  pub greatest :
      Passes orders ceilings day 1 old (passes_told orders ceilings day 1 old chain.passes) evening

-- days from day d on: on each every answer fits, and its chain is valid in its morning and under
-- its ceilings; they lead from one evening to another
abbrev pub AreProvedDays : Option Terms → List CallOrder → ℕ → State → List DayChain
    → State → Type 0
AreProvedDays terms orders d old [] new = old ≡ new
AreProvedDays terms orders d old (chain ∷ chains) new =
    (evening : State)
    × (unfit_on terms d old ≡ None)
    × IsDayChain orders (ceilings_of old.dossier d) d (morning terms d old) chain evening
    × AreProvedDays terms orders (d + 1) evening chains new

-- the evening to which the passes of a day's chain lead, and that of many days
abbrev pub evening_by : Option Terms → List CallOrder → ℕ → State → DayChain → State
evening_by terms orders d old chain =
    state_after orders (ceilings_of old.dossier d) d 1 (morning terms d old) chain.passes

abbrev pub evening_after : Option Terms → List CallOrder → ℕ → State → List DayChain → State
evening_after terms orders d old [] = old
evening_after terms orders d old (chain ∷ chains) =
    evening_after terms orders (d + 1) (evening_by terms orders d old chain) chains

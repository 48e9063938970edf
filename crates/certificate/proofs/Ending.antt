-- The evening of a valid day.
use Rattle.std.proofs.Common.{◌≡◌, ℕ, ◌+◌, List, [], ◌∷◌, None, Option, Result, Ok, Err, sym, subst, ◌∙◌}
use Rattle.std.specs.Prelude.{OnOk}
use Rattle.admit_core.specs.declared.chain.CheckReason.{CheckReason}
use Rattle.admit_core.specs.declared.chain.DayChain.{DayChain}
use Rattle.admit_core.specs.declared.chain.PassChain.{PassChain}
use Rattle.admit_core.specs.declared.ranking.CallOrder.{CallOrder}
use Rattle.admit_core.specs.State.{State}
use Rattle.admit_core.specs.Chains.{ArePassChains, IsDayChain, closing_by, day_fault}
use Rattle.admit_core.specs.ChainLaws.{ChainsTellTheDay, NoFaultWhereValid}
use Rattle.certificate.specs.declared.stop.CheckStop.{CheckStop}
use Rattle.certificate.specs.Checked.{Finds, state_after}
use Rattle.certificate.specs.ProvedDays.{IsProvedDay}

pub evening_is : (orders : List CallOrder) (ceilings : List ℕ) (day k : ℕ) (s : State)
    (passes : List PassChain) (evening : State)
    → ArePassChains orders ceilings day k s passes evening
    → evening ≡ state_after orders ceilings day k s passes
evening_is orders ceilings day k s [] evening are = absurd are
evening_is orders ceilings day k s (pass ∷ []) evening are = are.2
evening_is orders ceilings day k s (pass ∷ (next ∷ rest)) evening are =
    evening_is orders ceilings day (k + 1) (closing_by s orders ceilings (record { day = day; pass = k }) pass)
    (next ∷ rest) evening are.2

-- without a fault the day is valid, and the state after its passes is its evening
is_valid : NoFaultWhereValid
    → (orders : List CallOrder) (ceilings : List ℕ) (day : ℕ) (morning : State) (chain : DayChain)
    (evening : State) → day_fault orders ceilings day morning chain ≡ None
    → evening ≡ state_after orders ceilings day 1 morning chain.passes
    → IsDayChain orders ceilings day morning chain evening
is_valid law orders ceilings day morning chain evening none is =
    let (last, are) = (law orders ceilings day morning chain).0 none in
    subst (IsDayChain orders ceilings day morning chain)
    (evening_is orders ceilings day 1 morning chain.passes last are ∙ sym is) are

-- so the day is proved
pub is_proved : NoFaultWhereValid → ChainsTellTheDay
    → (orders : List CallOrder) (ceilings : List ℕ) (day : ℕ) (morning : State) (chain : DayChain)
    (evening : State) → day_fault orders ceilings day morning chain ≡ None
    → evening ≡ state_after orders ceilings day 1 morning chain.passes
    → IsProvedDay orders ceilings day chain morning evening
is_proved law tells orders ceilings day morning chain evening none is =
    let valid = is_valid law orders ceilings day morning chain evening none is in
    record { valid = valid; greatest = tells orders ceilings day morning chain evening valid }

-- a check that goes through found no fault
pub where_it_goes_through : {X P Q : Type 0} (result : Result X CheckStop) (fault : Option (ℕ × CheckReason))
    → OnOk result P → Finds result fault → (fault ≡ None → P → Q) → OnOk result Q
where_it_goes_through (Ok x) fault is none gives = gives none is
where_it_goes_through (Err e) fault is none gives = tt

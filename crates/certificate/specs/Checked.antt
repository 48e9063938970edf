-- What a check of a day answers.
use Rattle.std.specs.Prelude.{◌≡◌, ℕ, ◌+◌, List, [], ◌∷◌, map, Option, Some, None, Result, Ok, Err}
use Rattle.admit_core.specs.declared.chain.CheckReason.{CheckReason}
use Rattle.admit_core.specs.declared.chain.PassChain.{PassChain}
use Rattle.admit_core.specs.declared.ranking.CallOrder.{CallOrder}
use Rattle.admit_core.specs.declared.state.Stamp.{Stamp}
use Rattle.admit_core.specs.DossierRows.{DossierRows}
use Rattle.admit_core.specs.State.{State}
use Rattle.admit_core.specs.Chains.{closing_by}
use Rattle.dossier_check.specs.Ids.{Ids}
use Rattle.certificate.specs.declared.stop.CheckStop.{CheckStop}
use Rattle.certificate.specs.declared.stop.CheckStop.TheVariants as stop

-- the ids of a dossier's wishes and schools, by place
abbrev pub ids_in : DossierRows → Ids
ids_in d = record { wishes = map (λ w. w.id) d.wishes; schools = map (λ h. h.id) d.schools }

-- a check that stopped found this fault, unless memory ran out
abbrev pub Stops : CheckStop → Option (ℕ × CheckReason) → Type 0
Stops stop.OutOfMemory fault = Unit {0}
Stops (stop.Rejected found) fault = fault ≡ Some (found.row, found.reason)

-- a check that went through found none
abbrev pub Finds : {X : Type 0} → Result X CheckStop → Option (ℕ × CheckReason) → Type 0
Finds (Ok x) fault = fault ≡ None
Finds (Err s) fault = Stops s fault

-- the state after passes, each of which leaves the opening of the next
abbrev pub state_after : List CallOrder → List ℕ → ℕ → ℕ → State → List PassChain → State
state_after orders ceilings day k s [] = s
state_after orders ceilings day k s (pass ∷ rest) =
    let stamp : Stamp = record { day = day; pass = k } in
    state_after orders ceilings day (k + 1) (closing_by s orders ceilings stamp pass) rest

-- What holds in the evening of every day.
use Rattle.std.specs.Prelude.{◌≡◌, ℕ, ◌<◌, List, [], ◌∷◌, All, IsTrue}
use Rattle.admit_core.specs.declared.dossier.Wish.{Wish}
use Rattle.admit_core.specs.declared.state.Mark.{Mark}
use Rattle.admit_core.specs.declared.ranking.CallOrder.{CallOrder}
use Rattle.admit_core.specs.declared.records.PassEnd.{PassEnd}
use Rattle.admit_core.specs.Validity.{IsValid}
use Rattle.admit_core.specs.CallOrder.{AreCallOrders}
use Rattle.admit_core.specs.State.{State, entries, is_waiting, seats_left}
use Rattle.admit_core.specs.Proposals.{is_barred, proposed}
use Rattle.admit_core.specs.Falls.{IsGreatest}
use Rattle.admit_core.specs.Boarding.{boarding}
use Rattle.admit_core.specs.Days.{Passes}

-- the bars of the last pass of a day
abbrev pub last_bars : List PassEnd → List ℕ
last_bars [] = []
last_bars (pass ∷ []) = pass.pass.bars
last_bars (pass ∷ next ∷ rest) = last_bars (next ∷ rest)

-- in a state each wish that waits for a programme with seats left is barred
abbrev pub IsFilled : State → List ℕ → Wish × Mark → Type 0
IsFilled s bars (w, m) =
    IsTrue (is_waiting m) → 0 < seats_left s w.programme → IsTrue (is_barred s bars w m)

-- after the last pass of a day a programme has seats left only where each waiting wish of it is
-- barred under the last bars
abbrev pub SeatsAreFilled : Type 0
SeatsAreFilled =
    (orders : List CallOrder) (ceilings : List ℕ) (day k : ℕ) (opening : State)
    (passes : List PassEnd) (evening : State)
    → IsValid opening.dossier
    → AreCallOrders opening.dossier.groups orders
    → Passes orders ceilings day k opening passes evening
    → All (IsFilled evening (last_bars passes)) (entries evening)

-- an evening is closed: under its own greatest bars and the same ceilings no wish is proposed
abbrev pub EveningsAreClosed : Type 0
EveningsAreClosed =
    (orders : List CallOrder) (ceilings : List ℕ) (day k : ℕ) (opening : State)
    (passes : List PassEnd) (evening : State)
    → IsValid opening.dossier
    → AreCallOrders opening.dossier.groups orders
    → Passes orders ceilings day k opening passes evening
    → (bars : List ℕ)
    → IsGreatest (boarding evening orders ceilings) bars
    → proposed evening orders bars ≡ []

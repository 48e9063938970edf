-- A school whose bar never fell, with as many beds as were ever held at once.
use Rattle.std.specs.Prelude.{◌≤◌, ℕ, All, List, Option, length}
use Rattle.admit_core.specs.declared.ranking.CallOrder.{CallOrder}
use Rattle.admit_core.specs.declared.records.DayRecord.{DayRecord}
use Rattle.admit_core.specs.declared.records.Terms.{Terms}
use Rattle.admit_core.specs.Days.{Days}
use Rattle.admit_core.specs.LeastBeds.{with_beds}
use Rattle.admit_core.specs.State.{State, bed_holders}
use Rattle.admit_core.specs.Validity.{IsValid}
use Rattle.campaign_laws.specs.Moments.{moments}
use Rattle.campaign_bars.specs.MoreBeds.{HasSameDays, StandsAtCeiling}

-- no more than n candidates are live in the school
abbrev pub NoMoreThan : ℕ → ℕ → State → Type 0
NoMoreThan h n s = length (bed_holders s h) ≤ n

-- where it is so at each moment, n beds would do
abbrev pub BedsEverHeldWouldDo : Type 0
BedsEverHeldWouldDo =
    (terms : Option Terms) (orders : List CallOrder) (d : ℕ) (old : State) (days : List DayRecord)
    (new : State) (h n : ℕ)
    → IsValid old.dossier
    → Days terms orders d old days new
    → All (StandsAtCeiling old.dossier h) days
    → All (NoMoreThan h n) (moments terms orders old days)
    → HasSameDays terms orders d (with_beds old h n) days (with_beds new h n)

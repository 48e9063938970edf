-- What holds of the greatest bars as beds and ceilings grow.
use Rattle.std.specs.Prelude.{◌≡◌, ℕ, ◌≤◌, List, length}
use Rattle.admit_core.specs.declared.ranking.CallOrder.{CallOrder}
use Rattle.admit_core.specs.Boarding.{boarding}
use Rattle.admit_core.specs.DossierRows.{beds_of}
use Rattle.admit_core.specs.Falls.{IsAtMost, IsGreatest}
use Rattle.admit_core.specs.LeastBeds.{with_beds}
use Rattle.admit_core.specs.State.{State}

-- the greatest bars do not fall where a school gets more beds and the ceilings rise
abbrev pub GreatestBarsDoNotFall : Type 0
GreatestBarsDoNotFall =
    (s : State) (orders : List CallOrder) (low high bars more_bars : List ℕ) (school beds : ℕ)
    → length low ≡ length s.dossier.schools
    → IsAtMost low high
    → beds_of s.dossier school ≤ beds
    → IsGreatest (boarding s orders low) bars
    → IsGreatest (boarding (with_beds s school beds) orders high) more_bars
    → IsAtMost bars more_bars

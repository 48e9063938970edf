-- The greatest bars of a state, and those with more beds in one school.
use Rattle.std.specs.Prelude.{ℕ, ◌+◌, List}
use Rattle.admit_core.specs.declared.ranking.CallOrder.{CallOrder}
use Rattle.admit_core.specs.Boarding.{boarding}
use Rattle.admit_core.specs.DossierRows.{beds_of}
use Rattle.admit_core.specs.Falls.{FallingSystem, IsAtMost, IsGreatest}
use Rattle.admit_core.specs.LeastBeds.{with_beds}
use Rattle.admit_core.specs.State.{State}

-- the schools of a state, with n beds in the one at a place
abbrev pub with_n_beds : State → List CallOrder → List ℕ → ℕ → ℕ → FallingSystem
with_n_beds s orders ceilings school n = boarding (with_beds s school n) orders ceilings

-- the schools, with more beds in the one at a place
abbrev pub with_more_beds : State → List CallOrder → List ℕ → ℕ → ℕ → FallingSystem
with_more_beds s orders ceilings school more =
    with_n_beds s orders ceilings school (beds_of s.dossier school + more)

-- the greatest bars of the schools as they are, and as they are to be: no bar falls
pub record IsGrowth (present grown : FallingSystem) (bars more_bars : List ℕ) : Type 0 where
  pub before : IsGreatest present bars
  pub after : IsGreatest grown more_bars
  pub rises : IsAtMost bars more_bars

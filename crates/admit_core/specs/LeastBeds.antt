-- How many beds a school needs so that its bar stays at its ceiling.
use Rattle.std.specs.Prelude.{◌≡◌, ℕ, ◌≤◌, List, map, ◌==◌, slice_index, if◌then◌else◌}
use Rattle.std.specs.List.{enumerate_from}
use Rattle.admit_core.specs.declared.dossier.School.{School}
use Rattle.admit_core.specs.declared.ranking.CallOrder.{CallOrder}
use Rattle.admit_core.specs.DossierRows.{DossierRows}
use Rattle.admit_core.specs.State.{State}
use Rattle.admit_core.specs.Falls.{IsGreatest}
use Rattle.admit_core.specs.Boarding.{boarding}

-- the schools, with n beds in the one at a place
abbrev pub schools_with : List School → ℕ → ℕ → List School
schools_with schools h n =
    map (λ x. if x.0 == h then record x.1 { beds = n } else x.1) (enumerate_from 0 schools)

-- the dossier in which the school at a place has n beds
abbrev pub rebuilt : DossierRows → ℕ → ℕ → DossierRows
rebuilt d h n = record d { schools = schools_with d.schools h n }

-- the state over that dossier, with the same marks
abbrev pub with_beds : State → ℕ → ℕ → State
with_beds s h n = record s { dossier = rebuilt s.dossier h n }

-- n beds are enough: the greatest bars have the school's bar at its ceiling
abbrev pub AreEnough : State → List CallOrder → List ℕ → ℕ → ℕ → Type 0
AreEnough s orders ceilings h n =
    (bars : List ℕ) × IsGreatest (boarding (with_beds s h n) orders ceilings) bars
    × (slice_index bars h ≡ slice_index ceilings h)

-- the least number of beds that are enough
pub record IsLeastBeds (s : State) (orders : List CallOrder) (ceilings : List ℕ)
    (h n : ℕ) : Type 0 where
  pub enough : AreEnough s orders ceilings h n
  pub least : (k : ℕ) → AreEnough s orders ceilings h k → n ≤ k

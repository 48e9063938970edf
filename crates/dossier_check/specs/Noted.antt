-- Keys of rows, noted one after another.
use Rattle.std.specs.Prelude.{◌≡◌, ℕ, Bool, List, [], ◌∷◌, ◌++◌, map, Option, None, Result, IfOk, OnErr}
use Rattle.admit_core.specs.Faults.{first_row}

-- a row is noted behind those whose keys were noted, or the number of the first row of the same key is told
pub record Notes {R K E : Type 0} (eq : K → K → Bool) (key : R → K) (row : R) (old new : List K)
    (result : Result (Option ℕ) E) : Type 0 where
  pub first : (before : List R) → old ≡ map key before
      → IfOk result (λ first. first ≡ first_row (λ r. eq (key row) (key r)) before)
  pub noted : (before : List R) → old ≡ map key before
      → IfOk result (λ first. first ≡ None → new ≡ map key (before ++ row ∷ []))
  -- whatever memory there is
  pub told : (before : List R) → old ≡ map key before
      → OnErr result (first_row (λ r. eq (key row) (key r)) before ≡ None)

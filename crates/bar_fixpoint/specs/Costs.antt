-- What falls cost, and that a counter counts nothing else.
use Rattle.std.specs.Prelude.{◌≡◌, ℕ, ◌+◌, List, [], ◌∷◌, Option, Some, None, Result, Ok, Err}
use Rattle.admit_core.specs.declared.records.Fall.{Fall}
use Rattle.admit_core.specs.Falls.{FallingSystem, fallen}
use Rattle.bar_fixpoint.specs.Chosen.{EndsEarly}

-- what falls from these bars on cost, one after the other
abbrev pub cost_along : (List ℕ → List ℕ → ℕ) → List ℕ → List Fall → ℕ
cost_along cost bars [] = 0
cost_along cost bars (f ∷ fs) = cost bars (fallen bars f) + cost_along cost (fallen bars f) fs

-- a counter went on by what these falls cost
abbrev pub CountsFalls : (List ℕ → List ℕ → ℕ) → List ℕ → ℕ → ℕ → List Fall → Type 0
CountsFalls cost bars steps steps_after falls = steps_after ≡ steps + cost_along cost bars falls

-- what is counted where a fall costs this, but memory may run out before it
abbrev pub fall_cost : {T E : Type 0} → ℕ → Result T E → ℕ
fall_cost cost (Ok fell) = cost
fall_cost cost (Err e) = 0

-- the same of a step, in which perhaps no place is overfilled
abbrev pub step_cost : {E : Type 0} → ℕ → Result (Option ℕ) E → ℕ
step_cost cost (Ok (Some place)) = cost
step_cost cost (Ok None) = 0
step_cost cost (Err e) = 0

-- a counter went on by this, and falls cost as much as before
pub record Counts (cost cost_after : List ℕ → List ℕ → ℕ) (steps steps_after spent : ℕ) : Type 0 where
  pub same_cost : cost_after ≡ cost
  pub counted : steps_after ≡ steps + spent

-- the falls from the ceilings that led to these bars, all of them or those until memory ran out,
-- were counted
pub record AreCounted (sys : FallingSystem) (choice : List ℕ → List ℕ → ℕ)
    (told told_after after : List ℕ) (counts : List Fall → Type 0) : Type 0 where
  pub by_then : EndsEarly sys choice told told_after after
  pub counted : counts by_then.falls

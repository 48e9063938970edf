-- What a picker tells as bars are found.
use Rattle.std.specs.Prelude.{◌≡◌, ◌⊎◌, ℕ, ◌++◌, List, Result, IfOk, OnErr}
use Rattle.admit_core.specs.declared.records.Fall.{Fall}
use Rattle.admit_core.specs.Falls.{FallingSystem, IsRunOfFalls}
use Rattle.bar_fixpoint.specs.Chosen.{AreChosen, TellsOfFalls}
use Rattle.bar_fixpoint.specs.Runs.{schools_of}

-- a picker told of the schools of a run of falls, each of which it chose
pub record TellsOfRun (sys : FallingSystem) (choice : List ℕ → List ℕ → ℕ)
    (told after : List ℕ) : Type 0 where
  pub falls : List Fall
  pub is_run : IsRunOfFalls sys falls
  pub chosen : AreChosen sys choice told sys.ceilings falls
  pub told_of : after ≡ told ++ schools_of falls

-- a picker told of a run of one system, and then of a run of another
pub record TellsOfBoth (one other : FallingSystem) (choice : List ℕ → List ℕ → ℕ)
    (told after : List ℕ) : Type 0 where
  pub between : List ℕ
  pub first : TellsOfRun one choice told between
  pub second : TellsOfRun other choice between after

-- what a picker told where memory ran out: of falls of the one system, or of a run of it and then
-- of falls of the other
abbrev pub TellsOfFallsOfBoth : FallingSystem → FallingSystem → (List ℕ → List ℕ → ℕ)
    → List ℕ → List ℕ → Type 0
TellsOfFallsOfBoth one other choice told after =
    TellsOfFalls one choice told after
    ⊎ ((between : List ℕ) × TellsOfRun one choice told between
    × TellsOfFalls other choice between after)

-- a picker that was asked for the bars of these schools told of a run where they are found, and
-- else of falls that may end early, and chooses as it did
pub record IsAsked {T E : Type 0} (sys : FallingSystem) (result : Result T E)
    (chooses chooses_now : List ℕ → List ℕ → ℕ) (before now : List ℕ) : Type 0 where
  pub told : IfOk result (λ _. TellsOfRun sys chooses before now)
  pub falls : OnErr result (TellsOfFalls sys chooses before now)
  pub choice : chooses_now ≡ chooses

-- the same of a picker that was asked for the bars of two systems, one after the other
pub record IsAskedTwice {T E : Type 0} (one other : FallingSystem) (result : Result T E)
    (chooses chooses_now : List ℕ → List ℕ → ℕ) (before now : List ℕ) : Type 0 where
  pub told : IfOk result (λ _. TellsOfBoth one other chooses before now)
  pub falls : OnErr result (TellsOfFallsOfBoth one other chooses before now)
  pub choice : chooses_now ≡ chooses

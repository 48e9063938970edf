-- What a step of the engine does, and all steps together.
use Rattle.std.specs.Prelude.{◌≡◌, ℕ, List, [], ◌∷◌, ◌++◌, Option, Some, None, IsTrue}
use Rattle.admit_core.specs.declared.records.Fall.{Fall}
use Rattle.admit_core.specs.Falls.{FallingSystem, is_settled, fall_of}
use Rattle.bar_fixpoint.specs.Chosen.{PickedFall, TellsAtMostOne, IsRunBy}

-- the picked place fell; or none was overfilled, and nothing changed
abbrev pub IsStep : FallingSystem → (List ℕ → List ℕ → ℕ)
    → List ℕ → List ℕ → List ℕ → List ℕ → Option ℕ → Type 0
IsStep sys choice told bars told_after after (Some place) =
    PickedFall sys choice told bars (fall_of sys bars place) told_after after
IsStep sys choice told bars told_after after None =
    IsTrue (is_settled sys bars) × (after ≡ bars) × (told_after ≡ told)

-- memory ran out in a step: no bar fell, and the picker may have told of a place
abbrev pub IsNoStep : FallingSystem → (List ℕ → List ℕ → ℕ)
    → List ℕ → List ℕ → List ℕ → List ℕ → Type 0
IsNoStep sys choice told bars told_after after =
    (after ≡ bars) × TellsAtMostOne sys choice bars told told_after

-- a keeper was given the fall of the place; where none fell, none
abbrev pub GetsFall : (List Fall → Type 0) → (List Fall → Type 0) → (ℕ → Fall) → Option ℕ → Type 0
GetsFall given given_after fall (Some place) =
    (falls : List Fall) → given falls → given_after (falls ++ fall place ∷ [])
GetsFall given given_after fall None = (falls : List Fall) → given falls → given_after falls

-- a run of falls that the picker chose led here, and a keeper was given them
pub record HasFallen (sys : FallingSystem) (choice : List ℕ → List ℕ → ℕ)
    (told told_after after : List ℕ) (given : List Fall → Type 0) : Type 0 where
  pub by : IsRunBy sys choice told told_after after
  pub given_all : given by.falls

-- the system, what it offers and how the picker chooses are as before, whatever bars fell
pub record AreUnchanged (sys sys_after : FallingSystem) (offered offered_after : List ℕ → List ℕ)
    (chooses chooses_after : List ℕ → List ℕ → ℕ) : Type 0 where
  pub system : sys_after ≡ sys
  pub offers : offered_after ≡ offered
  pub choice : chooses_after ≡ chooses

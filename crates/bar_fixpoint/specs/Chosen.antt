-- Falls whose places a picker chose.
use Rattle.std.specs.Prelude.{◌≡◌, ℕ, ◌+◌, ◌≤◌, List, length, sum, [], ◌∷◌, ◌++◌, ◌⊎◌, IsTrue, ⊤}
use Rattle.admit_core.specs.declared.records.Fall.{Fall}
use Rattle.admit_core.specs.Falls.{FallingSystem, is_overfilled, fall_of, fallen, bars_after, AreFalls, IsRunOfFalls}
use Rattle.bar_fixpoint.specs.Overfilled.{all_overfilled}
use Rattle.bar_fixpoint.specs.Runs.{AreAboveAllThatFit, schools_of}

-- from these bars on, each place that fell was chosen from all that were overfilled
abbrev pub AreChosen : FallingSystem → (List ℕ → List ℕ → ℕ) → List ℕ → List ℕ → List Fall → Type 0
AreChosen sys choice told bars [] = ⊤
AreChosen sys choice told bars (f ∷ fs) =
    (f.school ≡ choice told (all_overfilled sys bars))
    × AreChosen sys choice (told ++ f.school ∷ []) (fallen bars f) fs

-- one fall: the place that the picker chose and told of
pub record PickedFall (sys : FallingSystem) (choice : List ℕ → List ℕ → ℕ) (told bars : List ℕ)
    (f : Fall) (told_after after : List ℕ) : Type 0 where
  pub overfilled : IsTrue (is_overfilled sys bars f.school)
  pub is_fall : f ≡ fall_of sys bars f.school
  pub bars_fell : after ≡ fallen bars f
  pub chosen : f.school ≡ choice told (all_overfilled sys bars)
  pub told_of : told_after ≡ told ++ f.school ∷ []

-- a picker told of the overfilled place that it chose
pub record TellsOne (sys : FallingSystem) (choice : List ℕ → List ℕ → ℕ)
    (bars told told_after : List ℕ) : Type 0 where
  pub place : ℕ
  pub overfilled : IsTrue (is_overfilled sys bars place)
  pub chosen : place ≡ choice told (all_overfilled sys bars)
  pub told_of : told_after ≡ told ++ place ∷ []

-- this is the place
abbrev pub IsPicked : FallingSystem → (List ℕ → List ℕ → ℕ)
    → List ℕ → List ℕ → List ℕ → ℕ → Type 0
IsPicked sys choice bars told told_after i =
    (one : TellsOne sys choice bars told told_after) × (one.place ≡ i)

-- a picker told of one place more, or of none
abbrev pub TellsAtMostOne : FallingSystem → (List ℕ → List ℕ → ℕ)
    → List ℕ → List ℕ → List ℕ → Type 0
TellsAtMostOne sys choice bars told told_after =
    (told_after ≡ told) ⊎ TellsOne sys choice bars told told_after

-- falls from the ceilings led to these bars, and the picker told of each, and perhaps of one
-- that was yet to fall
pub record EndsEarly (sys : FallingSystem) (choice : List ℕ → List ℕ → ℕ)
    (told told_after after : List ℕ) : Type 0 where
  pub falls : List Fall
  pub are_falls : AreFalls sys sys.ceilings falls
  pub chosen : AreChosen sys choice told sys.ceilings falls
  pub bars_fell : after ≡ bars_after sys.ceilings falls
  pub told_of : TellsAtMostOne sys choice after (told ++ schools_of falls) told_after

-- what a picker told where falls from the ceilings ended early, over whatever bars
abbrev pub TellsOfFalls : FallingSystem → (List ℕ → List ℕ → ℕ) → List ℕ → List ℕ → Type 0
TellsOfFalls sys choice told told_after =
    (bars : List ℕ) × EndsEarly sys choice told told_after bars

-- these falls are a run that led from the ceilings to these bars, and the picker chose each place
-- that fell and told of it
pub record IsRunOf (sys : FallingSystem) (choice : List ℕ → List ℕ → ℕ)
    (told told_after after : List ℕ) (falls : List Fall) : Type 0 where
  -- each is that of an overfilled place, and none is overfilled after the last
  pub is_run : IsRunOfFalls sys falls
  pub bars_fell : after ≡ bars_after sys.ceilings falls
  -- each takes one at least from the sum of the bars
  pub few : length falls + sum after ≤ sum sys.ceilings
  pub told_of : told_after ≡ told ++ schools_of falls
  pub chosen : AreChosen sys choice told sys.ceilings falls

-- there are such falls
pub record IsRunBy (sys : FallingSystem) (choice : List ℕ → List ℕ → ℕ)
    (told told_after after : List ℕ) : Type 0 where
  pub falls : List Fall
  pub run : IsRunOf sys choice told told_after after falls

-- memory ran out
pub record StopsAbove (sys : FallingSystem) (choice : List ℕ → List ℕ → ℕ)
    (told told_after after : List ℕ) : Type 0 where
  -- no bar is too low by then
  pub above : AreAboveAllThatFit sys after
  -- what fell by then, and what was told
  pub told_by_then : EndsEarly sys choice told told_after after

-- How a slot is laid out: the headers that it may have, and what a row under one of them says.
use Rattle.std.specs.Prelude.{ℕ, ◌==◌, List, [], ◌∷◌, Result, map, if◌then◌else◌}
use Rattle.csv.specs.Writing.{comma}
use Rattle.admit_core.specs.declared.slot.Slot.{Slot}
use Rattle.admit_core.specs.declared.refusal.Reason.{Reason}

-- a row under a shorter header has no field for the columns that a longer one adds
pub record Layout (A : Type 0) : Type 0 where
  pub slot : Slot
  pub headers : List (List (List ℕ))
  pub row : List (List ℕ) → Result A Reason

-- a letter in front of the first of these names
abbrev pub onto_first : ℕ → List (List ℕ) → List (List ℕ)
onto_first letter [] = (letter ∷ []) ∷ []
onto_first letter (name ∷ names) = (letter ∷ name) ∷ names

-- the names that commas part in a text
abbrev pub names_in : List ℕ → List (List ℕ)
names_in [] = [] ∷ []
names_in (letter ∷ text) =
    if letter == comma then [] ∷ names_in text else onto_first letter (names_in text)

-- the layout of a slot whose headers have these texts
abbrev pub layout_of : {A : Type 0} → Slot → List (List ℕ)
    → (List (List ℕ) → Result A Reason) → Layout A
layout_of slot texts row = record { slot = slot; headers = map names_in texts; row = row }

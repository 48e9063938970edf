-- What the ending of a run asks of the picker that it is lent.
use Rattle.std.specs.Prelude.{◌≡◌, ℕ, ◌++◌, false, List, [], Option, None, Some, Result, Ok, Err, ⊤}
use Rattle.admit_core.specs.declared.refusal.Refusal.{Refusal}
use Rattle.desk_day.specs.DeskStates.{DeskStates}
use Rattle.played.specs.Lent.{AreBack, Lent, Untold, is_named}
use Rattle.played.specs.PlayedDays.{Played}
use Rattle.request.specs.declared.modes.Mode.{Mode}
use Rattle.request.specs.declared.modes.Mode.TheVariants.{Beds, Market}
use Rattle.request.specs.declared.pickers.PickerName.{PickerName}
use Rattle.modes.specs.AfterDays.{seen_after}
use Rattle.modes.specs.Beds.{BreaksFigures, PicksForFigures}
use Rattle.modes.specs.Jobs.{JobView, picker_after}
use Rattle.modes.specs.Market.{BreaksMarket, PicksForMarket}

-- a picker: what it has told, and what it answers, by what it has told and the places it is asked
-- with
pub record Asked : Type 0 where
  pub told : List ℕ
  pub choice : List ℕ → List ℕ → ℕ

abbrev pub asked : Lent → PickerName → Asked
asked lent name = record { told = lent.told name; choice = lent.choice name }

-- what the picker that each mode asks tells in the ending; most modes ask nobody
abbrev pub ArePicks : Mode → JobView → Played → DeskStates → Asked → List ℕ → Type 0
ArePicks (Beds school) view played desk before picks =
    PicksForFigures (seen_after view played desk) school before.choice before.told picks
ArePicks Market view played desk before picks =
    PicksForMarket view.dossier played.orders before.choice before.told picks
ArePicks _ view played desk before picks = picks ≡ []

-- these are the picks that a picker told of
abbrev pub TellsPicks : (List ℕ → Type 0) → List ℕ → List ℕ → Type 0
TellsPicks Picks before after = (picks : List ℕ) × Picks picks × (after ≡ before ++ picks)

-- what the picker that is lent tells, where one is
abbrev pub TellsLent : Option PickerName → (Asked → List ℕ → Type 0) → Lent → Lent → Type 0
TellsLent None Picks before after = ⊤
TellsLent (Some name) Picks before after =
    TellsPicks (Picks (asked before name)) (before.told name) (after.told name)

-- what is told after the days: nothing where they were cut short
abbrev pub TellsAfter : Result DeskStates Refusal → JobView → Played → Lent → Lent → Type 0
TellsAfter (Ok desk) view played =
    TellsLent (picker_after view.request) (ArePicks view.request.mode view played desk)
TellsAfter (Err refusal) view played = Untold

-- what the picker that each mode asks told where memory ran out in the ending: a beginning of what
-- the ending would have told it
abbrev pub BreaksPicks : Mode → JobView → Played → DeskStates → Asked → List ℕ → Type 0
BreaksPicks (Beds school) view played desk before told =
    BreaksFigures (seen_after view played desk) school
    (record { before = before.told; after = told; choice = before.choice })
BreaksPicks Market view played desk before told =
    BreaksMarket view.dossier played.orders before.choice before.told told
BreaksPicks _ view played desk before told = told ≡ before.told

-- what the picker that is lent told then, where one is
abbrev pub BreaksLent : Option PickerName → (Asked → List ℕ → Type 0) → Lent → Lent → Type 0
BreaksLent None Breaks before after = ⊤
BreaksLent (Some name) Breaks before after = Breaks (asked before name) (after.told name)

-- what was told where memory ran out after the days
abbrev pub BreaksEnding : Result DeskStates Refusal → JobView → Played → Lent → Lent → Type 0
BreaksEnding (Ok desk) view played =
    BreaksLent (picker_after view.request) (BreaksPicks view.request.mode view played desk)
BreaksEnding (Err refusal) view played = Untold

-- no picker but the one that is lent is asked
abbrev pub OthersUntold : Option PickerName → Lent → Lent → Type 0
OthersUntold None before after = Untold before after
OthersUntold (Some name) before after =
    (other : PickerName) → is_named other name ≡ false → after.told other ≡ before.told other

-- the picker of the name was lent, where one is given: it is back in its place, and the others were
-- not asked
pub record IsLent (name : Option PickerName) (before after : Lent) : Type 0 where
  pub back : AreBack before after
  pub others : OthersUntold name before after

-- The mode `beds`: how many beds a school needs in the last pass, and how the bars stand then.
use Rattle.std.specs.Prelude.{◌≡◌, ◌⊎◌, ℕ, ◌++◌, List, Some, nat_eq, position}
use Rattle.admit_core.specs.Boarding.{boarding}
use Rattle.admit_core.specs.DossierRows.{DossierRows}
use Rattle.admit_core.specs.Explanations.{LastPass}
use Rattle.admit_core.specs.LeastBeds.{IsLeastBeds}
use Rattle.admit_core.specs.State.{State}
use Rattle.admit_core.specs.declared.ranking.CallOrder.{CallOrder}
use Rattle.admit_core.specs.declared.records.DayRecord.{DayRecord}
use Rattle.bar_fixpoint.specs.Chosen.{TellsOfFalls}
use Rattle.bed_need.specs.Figures.{AreFigures, Figures, TellsOfFigures, lacks, question}
use Rattle.bed_need.specs.Growing.{with_more_beds, with_n_beds}
use Rattle.bed_need.specs.Telling.{TellsOfFallsOfBoth, TellsOfRun}
use Rattle.bed_need.specs.Text.{beds_text}
use Rattle.desk_day.specs.Telling.{Telling}
use Rattle.played.specs.LastDays.{IsLastOf, pass_on}
use Rattle.modes.specs.AfterDays.{AfterDays}

-- the school at a place has these figures, which the text tells
pub record IsTextOf (d : DossierRows) (s : State) (orders : List CallOrder) (ceilings : List ℕ)
    (place : ℕ) (figures : Figures) (text : List ℕ) : Type 0 where
  pub are_figures : AreFigures s orders ceilings place figures
  pub is_text : text ≡ beds_text d place figures.need figures.before figures.after

-- the school of this id, and the last pass of the last day
pub record IsAsked (left : AfterDays) (school place : ℕ) (pass : LastPass) : Type 0 where
  pub is_place : position (nat_eq school) left.index.schools ≡ Some place
  pub day : DayRecord
  pub is_last : IsLastOf left.days day
  pub is_pass : pass ≡ pass_on left.dossier left.orders day left.desk

-- the text tells the figures of the school in the last pass
pub record TellsFigures (left : AfterDays) (school : ℕ) (text : List ℕ) : Type 0 where
  pub place : ℕ
  pub pass : LastPass
  pub figures : Figures
  pub is_asked : IsAsked left school place pass
  pub is_text : IsTextOf left.dossier pass.opening pass.orders pass.ceilings place figures text

-- what a picker picks as the figures of the school are found
pub record PicksForFigures (left : AfterDays) (school : ℕ) (choice : List ℕ → List ℕ → ℕ)
    (told picks : List ℕ) : Type 0 where
  pub place : ℕ
  pub pass : LastPass
  pub figures : Figures
  pub is_asked : IsAsked left school place pass
  pub are_figures : AreFigures pass.opening pass.orders pass.ceilings place figures
  pub tells : TellsOfFigures (question pass.opening pass.orders pass.ceilings place) figures.need
      choice told (told ++ picks)

-- a picker told of the run by which the need of the school at a place is found, and then of falls
-- of the two runs by which the bars are
pub record TellsOfGrowth (s : State) (orders : List CallOrder) (ceilings : List ℕ) (place : ℕ)
    (choice : List ℕ → List ℕ → ℕ) (told after : List ℕ) : Type 0 where
  pub need : ℕ
  pub is_need : IsLeastBeds s orders ceilings place need
  pub between : List ℕ
  pub least : TellsOfRun (with_n_beds s orders ceilings place 2000000000) choice told between
  pub grown : TellsOfFallsOfBoth (boarding s orders ceilings)
      (with_more_beds s orders ceilings place (lacks s place need)) choice between after

-- what a picker told where memory ran out as the figures of the school at a place were found
abbrev pub BreaksFiguring : State → List CallOrder → List ℕ → ℕ → (List ℕ → List ℕ → ℕ) → List ℕ
    → List ℕ → Type 0
BreaksFiguring s orders ceilings place choice told after =
    TellsOfFalls (with_n_beds s orders ceilings place 2000000000) choice told after
    ⊎ TellsOfGrowth s orders ceilings place choice told after

-- what it told of the school of this id in the last pass
pub record BreaksInPass (left : AfterDays) (school : ℕ) (telling : Telling) : Type 0 where
  pub place : ℕ
  pub pass : LastPass
  pub is_asked : IsAsked left school place pass
  pub breaks : BreaksFiguring pass.opening pass.orders pass.ceilings place telling.choice
      telling.before telling.after

-- the same, or nothing
abbrev pub BreaksFigures : AfterDays → ℕ → Telling → Type 0
BreaksFigures left school telling =
    (telling.after ≡ telling.before) ⊎ BreaksInPass left school telling

-- no other text tells the figures, whatever a picker chooses
abbrev pub IsOnlyText : AfterDays → ℕ → List ℕ → Type 0
IsOnlyText left school text =
    (other : List ℕ) → TellsFigures left school other → other ≡ text

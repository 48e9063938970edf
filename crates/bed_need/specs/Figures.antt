-- What a head is told of a school: the beds that it needs, and the bars with its present beds and
-- with those.
use Rattle.std.specs.Prelude.{◌≡◌, ℕ, ◌-◌, List}
use Rattle.admit_core.specs.declared.ranking.CallOrder.{CallOrder}
use Rattle.admit_core.specs.Boarding.{boarding}
use Rattle.admit_core.specs.DossierRows.{beds_of}
use Rattle.admit_core.specs.Falls.{FallingSystem}
use Rattle.admit_core.specs.LeastBeds.{IsLeastBeds}
use Rattle.admit_core.specs.State.{State}
use Rattle.bed_need.specs.Growing.{IsGrowth, with_more_beds, with_n_beds}
use Rattle.bed_need.specs.Telling.{TellsOfBoth, TellsOfRun}

pub record Figures : Type 0 where
  pub need : ℕ
  pub before : List ℕ
  pub after : List ℕ

-- how many beds a school lacks; none where it has as many as it needs
abbrev pub lacks : State → ℕ → ℕ → ℕ
lacks s school need = need - beds_of s.dossier school

-- the least number of beds with which the bar stays at its ceiling, and the greatest bars now and
-- with the beds that are lacking
pub record AreFigures (s : State) (orders : List CallOrder) (ceilings : List ℕ) (school : ℕ)
    (figures : Figures) : Type 0 where
  pub need : IsLeastBeds s orders ceilings school figures.need
  pub growth : IsGrowth (boarding s orders ceilings)
      (with_more_beds s orders ceilings school (lacks s school figures.need))
      figures.before figures.after

-- a state, ceilings and a school have one need and one pair of bars
abbrev pub FiguresAreFixed : Type 0
FiguresAreFixed =
    (s : State) (orders : List CallOrder) (ceilings : List ℕ) (school : ℕ) (one other : Figures)
    → AreFigures s orders ceilings school one
    → AreFigures s orders ceilings school other
    → one ≡ other

-- what they are asked of: the school at a place, in a state under ceilings
pub record Question : Type 0 where
  pub state : State
  pub orders : List CallOrder
  pub ceilings : List ℕ
  pub school : ℕ

abbrev pub question : State → List CallOrder → List ℕ → ℕ → Question
question s orders ceilings school =
    record { state = s; orders = orders; ceilings = ceilings; school = school }

-- the schools as they are, with n beds in the one that is asked about, and with those that it lacks
abbrev pub schools_now : Question → FallingSystem
schools_now q = boarding q.state q.orders q.ceilings

abbrev pub schools_with : Question → ℕ → FallingSystem
schools_with q n = with_n_beds q.state q.orders q.ceilings q.school n

abbrev pub schools_grown : Question → ℕ → FallingSystem
schools_grown q need =
    with_more_beds q.state q.orders q.ceilings q.school (lacks q.state q.school need)

-- what a picker tells as the figures are found: of a run with 2,000,000,000 beds in the school, of
-- one with its present beds, and of one with those that it lacks
pub record TellsOfFigures (q : Question) (need : ℕ) (choice : List ℕ → List ℕ → ℕ)
    (told after : List ℕ) : Type 0 where
  pub between : List ℕ
  pub least : TellsOfRun (schools_with q 2000000000) choice told between
  pub grown : TellsOfBoth (schools_now q) (schools_grown q need) choice between after

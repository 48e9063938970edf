-- Witnesses of the laws of beds: three wishes for one bed, and a bed more.
use Rattle.std.specs.Prelude.{◌≡◌, ℕ, ◌≤◌, List, [], ◌∷◌, length}
use Rattle.admit_core.specs.declared.ranking.CallOrder.{CallOrder}
use Rattle.admit_core.specs.Boarding.{boarding}
use Rattle.admit_core.specs.DossierRows.{beds_of}
use Rattle.admit_core.specs.Falls.{IsAtMost, IsGreatest}
use Rattle.admit_core.specs.LeastBeds.{with_beds}
use Rattle.admit_core.specs.State.{State}
use Rattle.admit_core.specs.WorkedRows.{greatest_bar, greatest_bar_orders}
use Rattle.bed_need.specs.Figures.{AreFigures, Figures}

-- with a second bed and a higher ceiling the bar is at that ceiling
abbrev pub GreatestBarsDoNotFallWitness : Type 0
GreatestBarsDoNotFallWitness =
    let s : State = greatest_bar in
    let orders : List CallOrder = greatest_bar_orders in
    let low : List ℕ = 10 ∷ [] in
    let high : List ℕ = 12 ∷ [] in
    let bars : List ℕ = 2 ∷ [] in
    let more_bars : List ℕ = 12 ∷ [] in
    let school : ℕ = 0 in
    let beds : ℕ = 2 in
    (length low ≡ length s.dossier.schools)
    × IsAtMost low high
    × (beds_of s.dossier school ≤ beds)
    × IsGreatest (boarding s orders low) bars
    × IsGreatest (boarding (with_beds s school beds) orders high) more_bars
    × IsAtMost bars more_bars

abbrev pub FiguresAreFixedWitness : Type 0
FiguresAreFixedWitness =
    let s : State = greatest_bar in
    let orders : List CallOrder = greatest_bar_orders in
    let ceilings : List ℕ = 10 ∷ [] in
    let school : ℕ = 0 in
    let one : Figures = record { need = 2; before = 2 ∷ []; after = 10 ∷ [] } in
    let other : Figures = record { need = 2; before = 2 ∷ []; after = 10 ∷ [] } in
    AreFigures s orders ceilings school one
    × AreFigures s orders ceilings school other
    × (one ≡ other)

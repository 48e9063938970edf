-- The witnesses of the laws of beds, by computation.
use Rattle.std.proofs.Common.{[], ◌∷◌, refl, lit≤}
use Rattle.admit_core.specs.LeastBeds.{with_beds}
use Rattle.admit_core.specs.WorkedRows.{greatest_bar, greatest_bar_orders}
use Rattle.admit_core.proofs.ChainRows.{beds_needed_hold}
use Rattle.bed_need.specs.Figures.{AreFigures}
use Rattle.law_cases.specs.Beds.{FiguresAreFixedWitness, GreatestBarsDoNotFallWitness}
use Rattle.law_cases.proofs.BarCases.{greatest_of}
use Rattle.law_cases.proofs.Tested.{at_most_by}

pub greatest_bars_do_not_fall_here : GreatestBarsDoNotFallWitness
greatest_bars_do_not_fall_here = (
  refl,
  at_most_by _ _ refl,
  lit≤ tt,
  greatest_of greatest_bar greatest_bar_orders (10 ∷ []) (0 ∷ []) (2 ∷ [])
      (record { are_falls = (refl, refl, tt); settled = refl }) refl,
  greatest_of (with_beds greatest_bar 0 2) greatest_bar_orders (12 ∷ []) [] (12 ∷ [])
      (record { are_falls = tt; settled = refl }) refl,
  at_most_by _ _ refl,
)

figures : AreFigures greatest_bar greatest_bar_orders (10 ∷ []) 0
    (record { need = 2; before = 2 ∷ []; after = 10 ∷ [] })
figures = record {
  need = beds_needed_hold.0;
  growth = record {
    before = greatest_of greatest_bar greatest_bar_orders (10 ∷ []) (0 ∷ []) (2 ∷ [])
        (record { are_falls = (refl, refl, tt); settled = refl }) refl;
    after = greatest_of (with_beds greatest_bar 0 2) greatest_bar_orders (10 ∷ []) [] (10 ∷ [])
        (record { are_falls = tt; settled = refl }) refl;
    rises = at_most_by _ _ refl;
  };
}

pub figures_are_fixed_here : FiguresAreFixedWitness
figures_are_fixed_here = (figures, figures, refl)

-- Bars that a picker's falls led to.
use Rattle.std.specs.Prelude.{◌≡◌, ℕ, List, ◌++◌}
use Rattle.admit_core.specs.declared.records.Fall.{Fall}
use Rattle.admit_core.specs.Falls.{FallingSystem, bars_after, IsRunOfFalls, Leads}
use Rattle.bar_fixpoint.specs.Runs.{schools_of}
use Rattle.bar_fixpoint.specs.Chosen.{AreChosen}

-- a run of falls led to these bars: the picker chose each place that fell, and told of it; these
-- picks lead the system
pub record IsLedTo (sys : FallingSystem) (choice : List ℕ → List ℕ → ℕ)
    (told told_after bars : List ℕ) : Type 0 where
  pub falls : List Fall
  pub is_run : IsRunOfFalls sys falls
  pub leads : Leads sys (schools_of falls)
  pub chosen : AreChosen sys choice told sys.ceilings falls
  pub told_of : told_after ≡ told ++ schools_of falls
  pub bars_fell : bars ≡ bars_after sys.ceilings falls

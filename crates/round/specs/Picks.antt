-- What a picker is asked and told in a pass.
use Rattle.std.specs.Prelude.{◌≡◌, ℕ, List, ◌++◌, Result, IfOk, OnErr}
use Rattle.admit_core.specs.declared.records.PassRecord.{PassRecord}
use Rattle.admit_core.specs.Falls.{FallingSystem}
use Rattle.bar_fixpoint.specs.Chosen.{AreChosen, TellsOfFalls}
use Rattle.bar_fixpoint.specs.Runs.{schools_of}

-- a picker chose each school that fell in a pass over these schools, and was told of it. Where
-- memory ran out it was told of the falls so far, and of at most one more school, which it chose.
-- It chooses as it did
pub record PicksFalls {E : Type 0} (sys : FallingSystem)
    (chooses chooses_now : List ℕ → List ℕ → ℕ) (before now : List ℕ)
    (result : Result PassRecord E) : Type 0 where
  pub told : IfOk result (λ found. now ≡ before ++ schools_of found.falls)
  pub chosen : IfOk result (λ found. AreChosen sys chooses before sys.ceilings found.falls)
  pub told_by_then : OnErr result (TellsOfFalls sys chooses before now)
  pub choice : chooses_now ≡ chooses

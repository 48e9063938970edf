-- What follows where the falls ended.
use Rattle.std.proofs.Common.{◌≡◌, ℕ, List, sym, subst, Result, Ok, Err}
use Rattle.std.specs.Prelude.{OnErr, OnOk}
use Rattle.admit_core.specs.declared.records.Fall.{Fall}
use Rattle.admit_core.specs.Falls.{FallingSystem, IsAtMost, IsLawful, IsGreatest}
use Rattle.admit_core.proofs.FallsLaw.{all_above, run_is_greatest}
use Rattle.bar_fixpoint.specs.Runs.{AreAboveAllThatFit}
use Rattle.bar_fixpoint.specs.Chosen.{EndsEarly, IsRunBy, IsRunOf, StopsAbove}
use Rattle.bar_fixpoint.specs.Steps.{HasFallen}
use Rattle.bar_fixpoint.proofs.SoFar.{IsAtMost-refl}

module _ (sys : FallingSystem) (lawful : IsLawful sys) (choice : List ℕ → List ℕ → ℕ) (told told_after after : List ℕ)
  where
    -- a whole run led to the greatest bars
    pub greatest_there : IsRunBy sys choice told told_after after → IsGreatest sys after
    greatest_there by =
        subst (IsGreatest sys) (sym by.run.bars_fell) (run_is_greatest sys lawful by.falls by.run.is_run)

    -- also where they ended early, no bar is below one of bars that fit
    above_there : EndsEarly sys choice told told_after after → AreAboveAllThatFit sys after
    above_there early others fits =
        subst (IsAtMost others) (sym early.bars_fell)
        (all_above sys lawful others fits sys.ceilings early.falls
        (IsAtMost-refl sys.ceilings) fits.under_ceilings early.are_falls)

    pub stops_there : EndsEarly sys choice told told_after after → StopsAbove sys choice told told_after after
    stops_there early = record { above = above_there early; told_by_then = early }

    -- the same by the result
    pub greatest_on : {T E : Type 0} (r : Result T E) (given : List Fall → Type 0)
        → OnOk r (HasFallen sys choice told told_after after given) → OnOk r (IsGreatest sys after)
    greatest_on (Ok x) given fallen = greatest_there fallen.by
    greatest_on (Err e) given fallen = tt

    pub stops_on : {T E : Type 0} (r : Result T E) → EndsEarly sys choice told told_after after
        → OnErr r (StopsAbove sys choice told told_after after)
    stops_on (Ok x) early = tt
    stops_on (Err e) early = stops_there early

-- the falls that a list was given are those of the run
pub run_kept : (sys : FallingSystem) (choice : List ℕ → List ℕ → ℕ) (told told_after after : List ℕ) (kept : List Fall)
    → HasFallen sys choice told told_after after (λ falls. kept ≡ falls)
    → IsRunOf sys choice told told_after after kept
run_kept sys choice told told_after after kept fallen =
    subst (IsRunOf sys choice told told_after after) (sym fallen.given_all) fallen.by.run

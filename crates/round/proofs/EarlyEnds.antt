-- What a picker told where memory ran out in a pass.
use Rattle.std.proofs.Common.{ℕ, ◌≡◌, List, ◌++◌, Result, refl, inl, subst}
use Rattle.std.specs.Prelude.{IsErr}
use Rattle.std.proofs.lemmas.Result.{IfOk-from_err}
use Rattle.admit_core.proofs.Plain.{on_err}
use Rattle.admit_core.specs.declared.records.Fall.{Fall}
use Rattle.admit_core.specs.declared.records.PassRecord.{PassRecord}
use Rattle.admit_core.specs.Falls.{FallingSystem, IsRunOfFalls, bars_after}
use Rattle.bar_fixpoint.specs.Runs.{schools_of}
use Rattle.bar_fixpoint.specs.Chosen.{AreChosen, EndsEarly, TellsOfFalls}
use Rattle.round.specs.Picks.{PicksFalls}

-- what the engine says, by the system's name
pub told_early : (sys now : FallingSystem) (choice : List ℕ → List ℕ → ℕ) (told told_after bars : List ℕ) → now ≡ sys
    → EndsEarly now choice told told_after bars → TellsOfFalls sys choice told told_after
told_early sys now choice told told_after bars same ends =
    (bars, subst (λ (s : FallingSystem). EndsEarly s choice told told_after bars) same ends)

-- of each fall, where all were made
pub told_of_all : (sys now : FallingSystem) (choice : List ℕ → List ℕ → ℕ) (told told_after : List ℕ)
    (falls : List Fall) → now ≡ sys → IsRunOfFalls now falls
    → AreChosen now choice told now.ceilings falls → told_after ≡ told ++ schools_of falls
    → TellsOfFalls sys choice told told_after
told_of_all sys now choice told told_after falls same is_run chosen told_of =
    told_early sys now choice told told_after (bars_after now.ceilings falls) same
    (record { falls = falls; are_falls = is_run.are_falls; chosen = chosen; bars_fell = refl; told_of = inl told_of })

-- a pass that found no room
pub picks_early : {E : Type 0} (sys : FallingSystem) (chooses chooses_now : List ℕ → List ℕ → ℕ) (before now : List ℕ)
    (r : Result PassRecord E) → IsErr r → TellsOfFalls sys chooses before now → chooses_now ≡ chooses
    → PicksFalls sys chooses chooses_now before now r
picks_early sys chooses chooses_now before now r is told same = record {
  told = IfOk-from_err r _ is;
  chosen = IfOk-from_err r _ is;
  told_by_then = on_err r told;
  choice = same;
}

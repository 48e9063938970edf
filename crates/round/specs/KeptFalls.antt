-- Passes that keep their falls, and passes that keep none.
use Rattle.std.specs.Prelude.{◌≡◌, ℕ, Bool, true, false, List, [], ◌++◌, if◌then◌else◌}
use Rattle.admit_core.specs.declared.ranking.CallOrder.{CallOrder}
use Rattle.admit_core.specs.declared.records.Fall.{Fall}
use Rattle.admit_core.specs.declared.records.PassRecord.{PassRecord}
use Rattle.admit_core.specs.declared.state.Stamp.{Stamp}
use Rattle.admit_core.specs.Boarding.{boarding}
use Rattle.admit_core.specs.Days.{IsPass, offered}
use Rattle.admit_core.specs.Falls.{FallingSystem}
use Rattle.admit_core.specs.State.{State}
use Rattle.bar_fixpoint.specs.Chosen.{AreChosen, IsRunBy}
use Rattle.bar_fixpoint.specs.Runs.{schools_of}
use Rattle.round.specs.PassLaws.{KeepsPassLaws}
use Rattle.round.specs.Telling.{Telling}
use Rattle.round.specs.declared.falls.Falls.{Falls}
use Rattle.round.specs.declared.falls.Falls.TheVariants.{Kept, LeftOut}

-- whether the falls are kept
abbrev pub are_kept : Falls → Bool
are_kept Kept = true
are_kept LeftOut = false

-- all falls where they are kept, and none elsewhere
abbrev pub kept_falls : Bool → List Fall → List Fall
kept_falls keeps falls = if keeps then falls else []

-- the same of a pass: its bars and its offers are kept
abbrev pub kept_pass : Bool → PassRecord → PassRecord
kept_pass keeps pass =
    record { bars = pass.bars; falls = kept_falls keeps pass.falls; offers = pass.offers }

-- what is kept of something of which this holds
abbrev pub IsKeptOf : {A B : Type 0} → (A → B) → (A → Type 0) → B → Type 0
IsKeptOf keep Holds kept = (whole : _) × Holds whole × (kept ≡ keep whole)

-- a pass over a state, whose schools a picker chose and told of
pub record IsPassBy (s : State) (orders : List CallOrder) (ceilings : List ℕ) (telling : Telling)
    (pass : PassRecord) : Type 0 where
  pub is_pass : IsPass s orders ceilings pass
  pub told_of : telling.after ≡ telling.before ++ schools_of pass.falls
  pub chosen : AreChosen (boarding s orders ceilings) telling.choice telling.before ceilings
      pass.falls

-- the same, with the state that the offers of the pass led to; the pass keeps the laws of passes
pub record IsPassOffered (s new : State) (orders : List CallOrder) (ceilings : List ℕ)
    (stamp : Stamp) (telling : Telling) (pass : PassRecord) : Type 0 where
  pub by : IsPassBy s orders ceilings telling pass
  pub offers : new ≡ offered s orders pass.bars stamp
  pub laws : KeepsPassLaws s new ceilings pass

-- these are kept of falls that led from the ceilings to these bars, and of which a picker told
abbrev pub AreKeptOfRun : Bool → FallingSystem → (List ℕ → List ℕ → ℕ) → List ℕ → List ℕ → List ℕ
    → List Fall → Type 0
AreKeptOfRun keeps sys choice told told_after bars falls =
    (run : IsRunBy sys choice told told_after bars) × (falls ≡ kept_falls keeps run.falls)

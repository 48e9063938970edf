-- Passes whose falls are kept or left out.
use Rattle.std.proofs.Common.{ℕ, ◌≡◌, Bool, true, false, List, [], Result, Ok, Err, IfOk, length, sym, ◌∙◌, ap}
use Rattle.std.proofs.Common.{subst}
use Rattle.admit_core.specs.declared.ranking.CallOrder.{CallOrder}
use Rattle.admit_core.specs.declared.records.Fall.{Fall}
use Rattle.admit_core.specs.declared.records.PassRecord.{PassRecord}
use Rattle.admit_core.specs.declared.state.Stamp.{Stamp}
use Rattle.admit_core.specs.CallOrder.{AreCallOrders}
use Rattle.admit_core.specs.Days.{offered}
use Rattle.admit_core.specs.Falls.{FallingSystem}
use Rattle.admit_core.specs.Proposals.{proposed}
use Rattle.admit_core.specs.State.{State}
use Rattle.admit_core.specs.Validity.{IsValid}
use Rattle.bar_fixpoint.specs.Chosen.{IsRunBy, IsRunOf}
use Rattle.round.specs.KeptFalls.{AreKeptOfRun, IsKeptOf, IsPassBy, IsPassOffered, kept_falls, kept_pass}
use Rattle.round.specs.Telling.{Telling}
use Rattle.round.proofs.PassClauses.{laws_kept}

-- falls that led to these bars
module _ (keeps : Bool) (sys : FallingSystem) (choice : List ℕ → List ℕ → ℕ) (told told_after bars : List ℕ) where
  -- all are kept
  pub all_kept : {A E : Type 0} (falls_in : A → List Fall) (r : Result A E) → keeps ≡ true
      → IfOk r (λ x. IsRunOf sys choice told told_after bars (falls_in x))
      → IfOk r (λ x. AreKeptOfRun keeps sys choice told told_after bars (falls_in x))
  all_kept falls_in (Ok x) all run =
      (record { falls = falls_in x; run = run }, ap (λ (k : Bool). kept_falls k (falls_in x)) (sym all))
  all_kept falls_in (Err e) all run = tt

  -- or none is
  pub none_kept : (falls : List Fall) → keeps ≡ false → falls ≡ [] → IsRunBy sys choice told told_after bars
      → AreKeptOfRun keeps sys choice told told_after bars falls
  none_kept falls left none run = (run, none ∙ ap (λ (k : Bool). kept_falls k run.falls) (sym left))

-- what is kept of a pass offers what the pass does, and then the pass has been made
module _ (keeps : Bool) {s : State} {orders : List CallOrder} {ceilings : List ℕ} {telling : Telling}
    {found : PassRecord} (is : IsKeptOf (kept_pass keeps) (IsPassBy s orders ceilings telling) found) where
  pub offers_are_proposed : found.offers ≡ proposed s orders found.bars
  offers_are_proposed =
      ap (λ (p : PassRecord). p.offers) is.2 ∙ is.1.is_pass.offers
      ∙ ap (λ (p : PassRecord). proposed s orders p.bars) (sym is.2)

  pub pass_is_made : (new : State) (stamp : Stamp) → new ≡ offered s orders found.bars stamp → IsValid s.dossier
      → AreCallOrders s.dossier.groups orders → length ceilings ≡ length s.dossier.schools
      → IsKeptOf (kept_pass keeps) (IsPassOffered s new orders ceilings stamp telling) found
  pass_is_made new stamp made valid called long =
      let offers = made ∙ ap (λ (p : PassRecord). offered s orders p.bars stamp) is.2 in (
        is.0,
        record {
          by = is.1;
          offers = offers;
          laws = laws_kept s new orders ceilings stamp is.0 is.1.is_pass offers valid called long;
        },
        is.2,
      )

-- a pass whose falls are all kept is what is kept of it
pub all_of : {E : Type 0} (Holds : PassRecord → Type 0) (r : Result PassRecord E)
    → IfOk r (IsKeptOf (kept_pass true) Holds) → IfOk r Holds
all_of Holds (Ok found) is = subst Holds (sym is.2) is.1
all_of Holds (Err e) is = tt

-- What a picker told.
use Rattle.std.proofs.Common.{◌≡◌, ◌∙◌, ℕ, List, Result, Ok, Err, ap, inl, inr, refl, subst}
use Rattle.std.specs.Result.{IsErrAnd}
use Rattle.admit_core.specs.declared.ranking.CallOrder.{CallOrder}
use Rattle.admit_core.specs.Falls.{FallingSystem}
use Rattle.admit_core.specs.State.{State}
use Rattle.bar_fixpoint.proofs.RunLaws.{none_told}
use Rattle.bar_fixpoint.specs.Chosen.{IsRunBy, TellsOfFalls}
use Rattle.linked_demand.specs.Rosters.{Setting}
use Rattle.round.proofs.EarlyEnds.{told_of_all}
use Rattle.bed_need.specs.Questions.{Questions}
use Rattle.bed_need.specs.Telling.{IsAsked, IsAskedTwice, TellsOfRun}

-- of falls that nobody keeps, of a system that has another name
pub run_of_settled : (now sys : FallingSystem) (choice : List ℕ → List ℕ → ℕ)
    (told after bars : List ℕ) → now ≡ sys → IsRunBy now choice told after bars
    → TellsOfRun sys choice told after
run_of_settled now sys choice told after bars same by =
    let run = by.run in
    subst (λ (s : FallingSystem). TellsOfRun s choice told after) same
    (record { falls = by.falls; is_run = run.is_run; chosen = run.chosen; told_of = run.told_of })

-- a whole run is one of falls
pub falls_of_run : (sys : FallingSystem) (choice : List ℕ → List ℕ → ℕ) (told after : List ℕ)
    → TellsOfRun sys choice told after → TellsOfFalls sys choice told after
falls_of_run sys choice told after run =
    told_of_all sys sys choice told after run.falls refl run.is_run run.chosen run.told_of

-- of a run of a system that has another name
pub asked_named : {T E : Type 0} (one other : FallingSystem) (result : Result T E)
    (chooses chooses_now : List ℕ → List ℕ → ℕ) (before now : List ℕ)
    → one ≡ other → IsAsked one result chooses chooses_now before now
    → IsAsked other result chooses chooses_now before now
asked_named one other result chooses chooses_now before now same is =
    subst (λ (sys : FallingSystem). IsAsked sys result chooses chooses_now before now) same is

-- a picker that was not asked
pub asked_nobody : {T E : Type 0} (sys : FallingSystem) (result : Result T E) (Q : E → Type 0)
    (chooses : List ℕ → List ℕ → ℕ) (before : List ℕ) → IsErrAnd result Q
    → IsAsked sys result chooses chooses before before
asked_nobody sys (Ok found) Q chooses before stops = absurd stops
asked_nobody sys (Err e) Q chooses before stops =
    record { told = tt; falls = none_told sys chooses before; choice = refl }

-- of a run after which something else is answered, or nothing, where memory ran out
module _ {T E U F : Type 0} {sys : FallingSystem} {chooses chooses_now : List ℕ → List ℕ → ℕ}
    {before now : List ℕ} where
  pub asked_found : {found : T} (other : Result U F)
      → IsAsked {T = T} {E = E} sys (Ok found) chooses chooses_now before now
      → IsAsked sys other chooses chooses_now before now
  asked_found (Ok told) asked = record { told = asked.told; falls = tt; choice = asked.choice }
  asked_found (Err e) asked = record {
    told = tt;
    falls = falls_of_run sys chooses before now asked.told;
    choice = asked.choice;
  }

  pub asked_in_vain : {e : E} (other : Result U F) (Q : F → Type 0) → IsErrAnd other Q
      → IsAsked {T = T} {E = E} sys (Err e) chooses chooses_now before now
      → IsAsked sys other chooses chooses_now before now
  asked_in_vain (Ok told) Q stops asked = absurd stops
  asked_in_vain (Err e) Q stops asked = record { told = tt; falls = asked.falls; choice = asked.choice }

-- of the bars of two systems
module _ {T E : Type 0} (one other : FallingSystem) (chooses : List ℕ → List ℕ → ℕ) (before : List ℕ) where
  pub asked_neither : (result : Result T E) (Q : E → Type 0) → IsErrAnd result Q
      → IsAskedTwice one other result chooses chooses before before
  asked_neither (Ok found) Q stops = absurd stops
  asked_neither (Err e) Q stops =
      record { told = tt; falls = inl (none_told one chooses before); choice = refl }

  -- memory ran out on the first
  pub asked_first : {U F : Type 0} (result : Result T E) (Q : E → Type 0) (f : F)
      (chooses_now : List ℕ → List ℕ → ℕ) (now : List ℕ) → IsErrAnd result Q
      → IsAsked {T = U} one (Err f) chooses chooses_now before now
      → IsAskedTwice one other result chooses chooses_now before now
  asked_first (Ok found) Q f chooses_now now stops asked = absurd stops
  asked_first (Err e) Q f chooses_now now stops asked =
      record { told = tt; falls = inl asked.falls; choice = asked.choice }

  module _ {U V F G : Type 0} (u : U) (then chooses_now : List ℕ → List ℕ → ℕ) (between now : List ℕ)
      (first : IsAsked {E = F} one (Ok u) chooses then before between) where
    -- memory ran out on the second
    pub asked_second : (result : Result T E) (Q : E → Type 0) (f : G) → IsErrAnd result Q
        → IsAsked {T = V} other (Err f) then chooses_now between now
        → IsAskedTwice one other result chooses chooses_now before now
    asked_second (Ok found) Q f stops asked = absurd stops
    asked_second (Err e) Q f stops asked = record {
      told = tt;
      falls = inr (
        between,
        first.told,
        subst (λ (by : List ℕ → List ℕ → ℕ). TellsOfFalls other by between now) first.choice asked.falls,
      );
      choice = asked.choice ∙ first.choice;
    }

    pub asked_both : (found : T) (v : V) → IsAsked {E = G} other (Ok v) then chooses_now between now
        → IsAskedTwice {E = E} one other (Ok found) chooses chooses_now before now
    asked_both found v asked = record {
      told = record {
        between = between;
        first = first.told;
        second = subst (λ (by : List ℕ → List ℕ → ℕ). TellsOfRun other by between now) first.choice asked.told;
      };
      falls = tt;
      choice = asked.choice ∙ first.choice;
    }

-- of two that have other names
pub twice_named : {T E : Type 0} (one other then next : FallingSystem) (result : Result T E)
    (chooses chooses_now : List ℕ → List ℕ → ℕ) (before now : List ℕ) → one ≡ then → other ≡ next
    → IsAskedTwice one other result chooses chooses_now before now
    → IsAskedTwice then next result chooses chooses_now before now
twice_named one other then next result chooses chooses_now before now first second is =
    subst (λ (sys : FallingSystem). IsAskedTwice sys next result chooses chooses_now before now) first
    (subst (λ (sys : FallingSystem). IsAskedTwice one sys result chooses chooses_now before now) second is)

-- questions along a roster that is made for them are of the same state and call orders
pub asked_along : (s : State) (orders : List CallOrder) (q : Questions) (roster : Setting)
    → q ≡ record { state = s; orders = roster.orders }
    → roster ≡ record { dossier = s.dossier; orders = orders } → q ≡ record { state = s; orders = orders }
asked_along s orders q roster is same =
    is ∙ ap (λ (r : Setting). let p : Questions = record { state = s; orders = r.orders } in p) same

-- What a pass reads and keeps of what the engine found, by the names that its clauses have.
use Rattle.std.proofs.Common.{ℕ, ◌+◌, ◌<◌, ◌≡◌, List, [], ◌∷◌, ◌++◌, length, take, sym, ◌∙◌, ap, subst}
use Rattle.std.specs.Prelude.{slice_index}
use Rattle.std.proofs.lemmas.List.{take_more}
use Rattle.admit_core.specs.declared.records.Fall.{Fall}
use Rattle.admit_core.specs.Falls.{FallingSystem, IsGreatest, IsRunOfFalls, bars_after}
use Rattle.bar_fixpoint.specs.Chosen.{AreChosen}

-- one more bar is read
pub bars_more : (bars found new : List ℕ) (i n bar : ℕ) → n ≡ length bars → i < n → found ≡ take i bars
    → bar ≡ slice_index bars i
    → new ≡ found ++ bar ∷ [] → new ≡ take (i + 1) bars
bars_more bars found new i n bar long lt found_is bar_is new_is =
    new_is ∙ ap (λ (l : List ℕ). l ++ bar ∷ []) found_is ∙ ap (λ (x : ℕ). take i bars ++ x ∷ []) bar_is
    ∙ sym (take_more bars i 0 (subst (λ n. i < n) long lt))

module _ (sys now : FallingSystem) (same : now ≡ sys) where
  pub greatest_kept : (bars after : List ℕ) → bars ≡ after → IsGreatest now after → IsGreatest sys bars
  greatest_kept bars after bars_are is =
      subst (λ (s : FallingSystem). IsGreatest s bars) same (subst (λ (b : List ℕ). IsGreatest now b) (sym bars_are) is)

  module _ (falls : List Fall) where
    pub run_kept : IsRunOfFalls now falls → IsRunOfFalls sys falls
    run_kept is = subst (λ (s : FallingSystem). IsRunOfFalls s falls) same is

    pub bars_kept : (bars after : List ℕ) → bars ≡ after → after ≡ bars_after now.ceilings falls
        → bars ≡ bars_after sys.ceilings falls
    bars_kept bars after bars_are after_is =
        bars_are ∙ after_is ∙ ap (λ (s : FallingSystem). bars_after s.ceilings falls) same

    pub chosen_kept : (choice : List ℕ → List ℕ → ℕ) (told : List ℕ) → AreChosen now choice told now.ceilings falls
        → AreChosen sys choice told sys.ceilings falls
    chosen_kept choice told are =
        subst (λ (s : FallingSystem). AreChosen s choice told s.ceilings falls) same are

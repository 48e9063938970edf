-- What the engine's answer says of a market that is solved.
use Rattle.std.proofs.Common.{ℕ, ◌≡◌, ◌∙◌, List, sym, subst}
use Rattle.admit_core.specs.Falls.{FallingSystem, IsGreatest}
use Rattle.bar_fixpoint.proofs.RunLaws.{picks_fix}
use Rattle.bar_fixpoint.specs.Chosen.{EndsEarly, IsRunBy, TellsOfFalls}
use Rattle.markets.specs.Solving.{IsLedTo}

pub led : (seen sys : FallingSystem) (choice : List ℕ → List ℕ → ℕ) (told told_after low bars : List ℕ) → seen ≡ sys
    → IsRunBy seen choice told told_after low → bars ≡ low
    → IsLedTo sys choice told told_after bars
led seen sys choice told told_after low bars same by bars_are =
    let run = by.run in
    let P : FallingSystem → Type 0 = λ s. IsLedTo s choice told told_after bars in
    subst P same (record {
      falls = by.falls;
      is_run = run.is_run;
      leads = (picks_fix seen by.falls run.is_run).0;
      chosen = run.chosen;
      told_of = run.told_of;
      bars_fell = bars_are ∙ run.bars_fell;
    })

-- the greatest bars of the system that the engine sees
pub greatest_here : (seen sys : FallingSystem) (low bars : List ℕ) → seen ≡ sys → IsGreatest seen low → bars ≡ low
    → IsGreatest sys bars
greatest_here seen sys low bars same greatest bars_are =
    subst (IsGreatest sys) (sym bars_are) (subst (λ s. IsGreatest s low) same greatest)

-- some falls are told of, at an early end of the engine
pub some_told : (seen sys : FallingSystem) (choice : List ℕ → List ℕ → ℕ) (told told_after bars : List ℕ) → seen ≡ sys
    → EndsEarly seen choice told told_after bars
    → TellsOfFalls sys choice told told_after
some_told seen sys choice told told_after bars same early =
    let P : FallingSystem → Type 0 = λ s. TellsOfFalls s choice told told_after in
    subst P same (bars, early)

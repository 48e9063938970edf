-- What the loop over falls keeps.
use Rattle.std.proofs.Common.{◌≡◌, ℕ, ◌+◌, ◌<◌, ◌≤◌, List, [], ◌∷◌, ◌++◌, length, true, refl, sym, ap, ◌∙◌, subst}
use Rattle.std.proofs.Common.{arith, append_assoc, inl}
use Rattle.std.specs.Prelude.{sum}
use Rattle.std.proofs.lemmas.List.{length_push, append-nil}
use Rattle.admit_core.specs.declared.records.Fall.{Fall}
use Rattle.admit_core.specs.Falls.{FallingSystem, IsAtMost, IsLawful, is_overfilled, is_settled, fall_of}
use Rattle.admit_core.specs.Falls.{fallen, bars_after, AreFalls, IsRunOfFalls}
use Rattle.admit_core.proofs.FallsLaw.{all_under}
use Rattle.bar_fixpoint.specs.Overfilled.{all_overfilled}
use Rattle.bar_fixpoint.specs.Runs.{schools_of}
use Rattle.bar_fixpoint.specs.Chosen.{AreChosen, PickedFall, TellsAtMostOne}
use Rattle.bar_fixpoint.specs.Costs.{AreCounted, CountsFalls, cost_along}
use Rattle.bar_fixpoint.specs.Steps.{HasFallen, IsNoStep}
use Rattle.bar_fixpoint.proofs.OneFall.{sum_falls}

-- the falls so far led from the ceilings to the bars
pub record SoFar (sys : FallingSystem) (choice : List ℕ → List ℕ → ℕ) (told : List ℕ) (falls : List Fall)
    (bars told_now : List ℕ) : Type 0 where
  pub are_falls : AreFalls sys sys.ceilings falls
  pub bars_fell : bars ≡ bars_after sys.ceilings falls
  pub told_of : told_now ≡ told ++ schools_of falls
  pub chosen : AreChosen sys choice told sys.ceilings falls
  pub few : length falls + sum bars ≤ sum sys.ceilings

AreFalls-push : (sys : FallingSystem) (bars : List ℕ) (fs : List Fall) (f : Fall) → AreFalls sys bars fs
    → is_overfilled sys (bars_after bars fs) f.school ≡ true
    → f ≡ fall_of sys (bars_after bars fs) f.school → AreFalls sys bars (fs ++ f ∷ [])
AreFalls-push sys bars [] f are over is = (over, is, tt)
AreFalls-push sys bars (e ∷ fs) f are over is = (are.0, are.1, AreFalls-push sys (fallen bars e) fs f are.2 over is)

bars_after-push : (bars : List ℕ) (fs : List Fall) (f : Fall)
    → bars_after bars (fs ++ f ∷ []) ≡ fallen (bars_after bars fs) f
bars_after-push bars [] f = refl
bars_after-push bars (e ∷ fs) f = bars_after-push (fallen bars e) fs f

AreChosen-push : (sys : FallingSystem) (choice : List ℕ → List ℕ → ℕ) (told bars : List ℕ) (fs : List Fall) (f : Fall)
    → AreChosen sys choice told bars fs
    → f.school ≡ choice (told ++ schools_of fs) (all_overfilled sys (bars_after bars fs))
    → AreChosen sys choice told bars (fs ++ f ∷ [])
AreChosen-push sys choice told bars [] f chosen is =
    (is ∙ ap (λ x. choice x (all_overfilled sys bars)) (append-nil told), tt)
AreChosen-push sys choice told bars (e ∷ fs) f chosen is = (
  chosen.0,
  AreChosen-push sys choice (told ++ e.school ∷ []) (fallen bars e) fs f chosen.1
      (is ∙ ap (λ x. choice x (all_overfilled sys (bars_after (fallen bars e) fs)))
      (sym (append_assoc told (e.school ∷ []) (schools_of fs)))),
)

schools-push : (fs : List Fall) (f : Fall) → schools_of (fs ++ f ∷ []) ≡ schools_of fs ++ f.school ∷ []
schools-push [] f = refl
schools-push (e ∷ fs) f = ap (λ xs. e.school ∷ xs) (schools-push fs f)

cost_along-push : (cost : List ℕ → List ℕ → ℕ) (bars : List ℕ) (fs : List Fall) (f : Fall)
    → cost_along cost bars (fs ++ f ∷ [])
    ≡ cost_along cost bars fs + cost (bars_after bars fs) (fallen (bars_after bars fs) f)
cost_along-push cost bars [] f = omega arith
cost_along-push cost bars (e ∷ fs) f = omega (arith, cost_along-push cost (fallen bars e) fs f)

-- a counter that went on by what one fall more costs
pub counted_more : (cost cost_now : List ℕ → List ℕ → ℕ) (first ceilings : List ℕ) (falls : List Fall) (f : Fall)
    (bars after : List ℕ) (steps steps_now steps_then : ℕ)
    → cost_now ≡ cost → first ≡ ceilings → bars ≡ bars_after ceilings falls → after ≡ fallen bars f
    → CountsFalls cost first steps steps_now falls
    → steps_then ≡ steps_now + cost_now bars after
    → CountsFalls cost first steps steps_then (falls ++ f ∷ [])
counted_more cost cost_now first ceilings falls f bars after steps steps_now steps_then same from is fell counted more =
    let at_first : bars ≡ bars_after first falls = is ∙ ap (λ x. bars_after x falls) (sym from) in
    let one : cost_now bars after ≡ cost (bars_after first falls) (fallen (bars_after first falls) f) =
    ap (λ c. c bars after) same ∙ ap (cost bars) fell ∙ ap (λ x. cost x (fallen x f)) at_first in
    omega (arith, counted, more, one, cost_along-push cost first falls f)

pub IsAtMost-refl : (bars : List ℕ) → IsAtMost bars bars
IsAtMost-refl bars = record { as_many = refl; each = λ i. omega arith }

module _ (sys : FallingSystem) (lawful : IsLawful sys) (choice : List ℕ → List ℕ → ℕ) (told : List ℕ) where
  -- before the first fall
  pub none_so_far : (bars : List ℕ) → bars ≡ sys.ceilings → SoFar sys choice told [] bars told
  none_so_far bars at_ceilings =
      let same : sum bars ≡ sum sys.ceilings = ap sum at_ceilings in
      record {
        are_falls = tt;
        bars_fell = at_ceilings;
        told_of = sym (append-nil told);
        chosen = tt;
        few = omega arith;
      }

  pub under_so_far : (falls : List Fall) (bars told_now : List ℕ) → SoFar sys choice told falls bars told_now
      → IsAtMost bars sys.ceilings
  under_so_far falls bars told_now so_far =
      let P : List ℕ → Type 0 = λ x. IsAtMost x sys.ceilings in
      subst P (sym so_far.bars_fell) (all_under sys lawful sys.ceilings falls
      (IsAtMost-refl sys.ceilings) so_far.are_falls)

  -- one fall more
  pub one_more : (falls : List Fall) (bars told_now : List ℕ) (f : Fall) (told_after after : List ℕ)
      → SoFar sys choice told falls bars told_now
      → PickedFall sys choice told_now bars f told_after after
      → SoFar sys choice told (falls ++ f ∷ []) after told_after
  one_more falls bars told_now f told_after after so_far fell =
      let P : List ℕ → Type 0 = λ x. is_overfilled sys x f.school ≡ true in
      let less : sum after < sum bars = sum_falls sys lawful choice told_now bars f told_after after
      (under_so_far falls bars told_now so_far) fell in
      record {
        are_falls =
            AreFalls-push sys sys.ceilings falls f so_far.are_falls (subst P so_far.bars_fell fell.overfilled)
            (fell.is_fall ∙ ap (λ x. fall_of sys x f.school) so_far.bars_fell);
        bars_fell = fell.bars_fell ∙ ap (λ x. fallen x f) so_far.bars_fell ∙ sym (bars_after-push sys.ceilings falls f);
        told_of =
            fell.told_of ∙ ap (λ x. x ++ f.school ∷ []) so_far.told_of
            ∙ append_assoc told (schools_of falls) (f.school ∷ [])
            ∙ ap (λ x. told ++ x) (sym (schools-push falls f));
        chosen =
            AreChosen-push sys choice told sys.ceilings falls f so_far.chosen
            (fell.chosen ∙ ap (λ x. choice x (all_overfilled sys bars)) so_far.told_of
            ∙ ap (λ x. choice (told ++ schools_of falls) (all_overfilled sys x)) so_far.bars_fell);
        few = omega (arith, less, length_push falls f, so_far.few);
      }

  -- where no place is overfilled any more
  pub run_so_far : (falls : List Fall) (bars told_now : List ℕ) → SoFar sys choice told falls bars told_now
      → is_settled sys bars ≡ true → IsRunOfFalls sys falls
  run_so_far falls bars told_now so_far settled =
      let P : List ℕ → Type 0 = λ x. is_settled sys x ≡ true in
      record { are_falls = so_far.are_falls; settled = subst P so_far.bars_fell settled }

  -- where running out of memory ends the falls
  pub early_so_far : (falls : List Fall) (bars told_now told_after : List ℕ) (counts : List Fall → Type 0)
      → SoFar sys choice told falls bars told_now
      → TellsAtMostOne sys choice bars told_now told_after → counts falls
      → AreCounted sys choice told told_after bars counts
  early_so_far falls bars told_now told_after counts so_far tells counted =
      let P : List ℕ → Type 0 = λ x. TellsAtMostOne sys choice bars x told_after in
      record {
        by_then = record {
          falls = falls;
          are_falls = so_far.are_falls;
          chosen = so_far.chosen;
          bars_fell = so_far.bars_fell;
          told_of = subst P so_far.told_of tells;
        };
        counted = counted;
      }

-- the same, of the system and the choice by their present names
module _ (sys : FallingSystem) (lawful : IsLawful sys) (choice : List ℕ → List ℕ → ℕ) (told : List ℕ)
    (sys_now : FallingSystem) (same : sys_now ≡ sys) where
  pub under_now : (falls : List Fall) (bars told_now : List ℕ) → SoFar sys choice told falls bars told_now
      → IsAtMost bars sys_now.ceilings
  under_now falls bars told_now so_far =
      let P : FallingSystem → Type 0 = λ s. IsAtMost bars s.ceilings in
      subst P (sym same) (under_so_far sys lawful choice told falls bars told_now so_far)

  falls_now : (choice_now : List ℕ → List ℕ → ℕ) (bars told_now : List ℕ) (f : Fall) (told_after after : List ℕ)
      → choice_now ≡ choice
      → PickedFall sys_now choice_now told_now bars f told_after after
      → PickedFall sys choice told_now bars f told_after after
  falls_now choice_now bars told_now f told_after after same_choice fell =
      let P : FallingSystem → Type 0 = λ s. PickedFall s choice_now told_now bars f told_after after in
      let Q : (List ℕ → List ℕ → ℕ) → Type 0 = λ c. PickedFall sys c told_now bars f told_after after in
      subst Q same_choice (subst P same fell)

  pub more_now : (choice_now : List ℕ → List ℕ → ℕ) (falls : List Fall) (bars told_now : List ℕ) (f : Fall)
      (told_after after : List ℕ) → choice_now ≡ choice
      → SoFar sys choice told falls bars told_now
      → PickedFall sys_now choice_now told_now bars f told_after after
      → SoFar sys choice told (falls ++ f ∷ []) after told_after
  more_now choice_now falls bars told_now f told_after after same_choice so_far fell =
      one_more sys lawful choice told falls bars told_now f told_after after so_far
      (falls_now choice_now bars told_now f told_after after same_choice fell)

  pub smaller_now : (choice_now : List ℕ → List ℕ → ℕ) (falls : List Fall) (bars told_now : List ℕ) (f : Fall)
      (told_after after : List ℕ) → choice_now ≡ choice
      → SoFar sys choice told falls bars told_now → PickedFall sys_now choice_now told_now bars f told_after after
      → sum after < sum bars
  smaller_now choice_now falls bars told_now f told_after after same_choice so_far fell =
      let fell_here = falls_now choice_now bars told_now f told_after after same_choice fell in
      sum_falls sys lawful choice told_now bars f told_after after
      (under_so_far sys lawful choice told falls bars told_now so_far) fell_here

  -- nothing falls any more
  pub fallen_now : (falls : List Fall) (bars told_now after told_after : List ℕ) (given : List Fall → Type 0)
      → SoFar sys choice told falls bars told_now
      → (is_settled sys_now bars ≡ true) × (after ≡ bars) × (told_after ≡ told_now) → given falls
      → HasFallen sys choice told told_after after given
  fallen_now falls bars told_now after told_after given so_far rest given_all =
      let P : FallingSystem → Type 0 = λ s. is_settled s bars ≡ true in
      let same_sum : sum after ≡ sum bars = ap sum rest.1 in
      record {
        by = record {
          falls = falls;
          run = record {
            is_run = run_so_far sys lawful choice told falls bars told_now so_far (subst P same rest.0);
            bars_fell = rest.1 ∙ so_far.bars_fell;
            few = omega (arith, same_sum, so_far.few);
            told_of = rest.2 ∙ so_far.told_of;
            chosen = so_far.chosen;
          };
        };
        given_all = given_all;
      }

  -- the falls that led here were counted
  pub ended_now : (falls : List Fall) (bars told_now after told_after : List ℕ) (counts : List Fall → Type 0)
      → SoFar sys choice told falls bars told_now
      → (is_settled sys_now bars ≡ true) × (after ≡ bars) × (told_after ≡ told_now) → counts falls
      → AreCounted sys choice told told_after after counts
  ended_now falls bars told_now after told_after counts so_far rest counted =
      record {
        by_then = record {
          falls = falls;
          are_falls = so_far.are_falls;
          chosen = so_far.chosen;
          bars_fell = rest.1 ∙ so_far.bars_fell;
          told_of = inl (rest.2 ∙ so_far.told_of);
        };
        counted = counted;
      }

  -- memory ran out in the next step
  pub early_now : (choice_now : List ℕ → List ℕ → ℕ) (falls : List Fall) (bars told_now told_after after : List ℕ)
      (counts : List Fall → Type 0)
      → choice_now ≡ choice
      → SoFar sys choice told falls bars told_now
      → IsNoStep sys_now choice_now told_now bars told_after after → counts falls
      → AreCounted sys choice told told_after after counts
  early_now choice_now falls bars told_now told_after after counts same_choice so_far stopped counted =
      let P : FallingSystem → Type 0 = λ s. TellsAtMostOne s choice_now bars told_now told_after in
      let Q : (List ℕ → List ℕ → ℕ) → Type 0 = λ c. TellsAtMostOne sys c bars told_now told_after in
      let R : List ℕ → Type 0 = λ bs. AreCounted sys choice told told_after bs counts in
      subst R (sym stopped.0)
      (early_so_far sys lawful choice told falls bars told_now told_after counts so_far
      (subst Q same_choice (subst P same stopped.1)) counted)

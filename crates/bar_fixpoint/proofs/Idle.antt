-- Where no place is overfilled at first, nothing falls, and nothing is asked for that takes memory.
use Rattle.std.proofs.Common.{◌≡◌, ℕ, List, [], true, false, refl, sym, subst, arith}
use Rattle.std.proofs.lemmas.Bool.{false≢true}
use Rattle.admit_core.specs.declared.records.Fall.{Fall}
use Rattle.admit_core.specs.Falls.{FallingSystem, IsLawful, is_overfilled}
use Rattle.admit_core.proofs.FallsLaw.{over_in, room_from}
use Rattle.bar_fixpoint.specs.Overfilled.{all_overfilled}
use Rattle.bar_fixpoint.specs.Chosen.{PickedFall}
use Rattle.bar_fixpoint.proofs.OneFall.{settled_from_none}

-- no place is overfilled where the list of them is empty
pub none_over : (sys : FallingSystem) → IsLawful sys → (bars : List ℕ) (i : ℕ) → all_overfilled sys bars ≡ []
    → is_overfilled sys bars i ≡ true → ⊥
none_over sys lawful bars i none over =
    let within = over_in sys lawful bars i over in
    absurd (omega (
      arith,
      within.1,
      room_from sys lawful bars
          (settled_from_none sys bars [] (sym none) refl) i within.0,
    ))

module _ {S : Type 0} (system : S → FallingSystem) (bars : S → List ℕ) (lawful : (s : S) → IsLawful (system s))
    (first now : S) (idle : all_overfilled (system first) (bars first) ≡ [] → now ≡ first) where
  none_now : all_overfilled (system first) (bars first) ≡ [] → all_overfilled (system now) (bars now) ≡ []
  none_now none = subst (λ s. all_overfilled (system s) (bars s) ≡ []) (sym (idle none)) none

  -- no bar falls
  pub none_fell : (choice : List ℕ → List ℕ → ℕ) (told : List ℕ) (f : Fall) (told_after after : List ℕ)
      → PickedFall (system now) choice told (bars now) f told_after after
      → all_overfilled (system first) (bars first) ≡ [] → ⊥
  none_fell choice told f told_after after fell none =
      none_over (system now) (lawful now) (bars now) f.school (none_now none) fell.overfilled

  -- the first question is answered
  pub answered : (lends : S → Type 0)
      → (lends now → all_overfilled (system now) (bars now) ≡ [] → false ≡ true)
      → lends first → all_overfilled (system first) (bars first) ≡ [] → ⊥
  answered lends always lent none =
      false≢true (always (subst lends (sym (idle none)) lent) (none_now none))

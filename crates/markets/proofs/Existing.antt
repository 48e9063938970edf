-- Every lawful system has greatest bars: those that the falls of the first overfilled place lead to.
use Rattle.std.proofs.Common.{ℕ, zero, suc, ◌≤◌, ◌<◌, ◌≡◌, true, List, [], ◌∷◌, ◌++◌, length, get_or, refl, sym, ap}
use Rattle.std.proofs.Common.{subst, arith}
use Rattle.std.specs.Prelude.{All, sum}
use Rattle.std.specs.List.{range_with_len}
use Rattle.std.proofs.lemmas.List.Elements.{filter_passes}
use Rattle.admit_core.specs.declared.records.Fall.{Fall}
use Rattle.admit_core.specs.Falls.{FallingSystem, IsLawful, IsGreatest, is_overfilled, is_settled, fall_of, fallen}
use Rattle.bar_fixpoint.specs.Overfilled.{all_overfilled}
use Rattle.bar_fixpoint.specs.Chosen.{PickedFall}
use Rattle.bar_fixpoint.proofs.OneFall.{settled_from_none, sum_falls}
use Rattle.admit_core.proofs.FallsLaw.{run_is_greatest}
use Rattle.bar_fixpoint.proofs.SoFar.{SoFar, none_so_far, one_more, run_so_far, under_so_far}

-- the first place is chosen
abbrev first : List ℕ → List ℕ → ℕ
first told places = get_or places 0 0

by_list : {R : Type 0} (xs : List ℕ) → (xs ≡ [] → R) → ((x : ℕ) (rest : List ℕ) → xs ≡ x ∷ rest → R) → R
by_list [] none some = none refl
by_list (x ∷ rest) none some = some x rest refl

module _ (sys : FallingSystem) (lawful : IsLawful sys) where
  first_falls : (bars told : List ℕ) (i : ℕ) (is : List ℕ) → all_overfilled sys bars ≡ i ∷ is
      → PickedFall sys first told bars (fall_of sys bars i) (told ++ i ∷ []) (fallen bars (fall_of sys bars i))
  first_falls bars told i is list =
      let over : ℕ → Type 0 = λ j. is_overfilled sys bars j ≡ true in
      let all : All over (i ∷ is) = subst (All over) list (filter_passes (is_overfilled sys bars)
      (range_with_len 0 (length sys.ceilings)))
      in
      record {
        overfilled = all 0 i (omega arith);
        is_fall = refl;
        bars_fell = refl;
        chosen = ap (λ (places : List ℕ). get_or places 0 0) (sym list);
        told_of = refl;
      }

  -- where no place is overfilled any more
  settled_greatest : (falls : List Fall) (bars told : List ℕ) → SoFar sys first [] falls bars told
      → is_settled sys bars ≡ true → IsGreatest sys bars
  settled_greatest falls bars told so_far settled =
      subst (IsGreatest sys) (sym so_far.bars_fell)
      (run_is_greatest sys lawful falls (run_so_far sys lawful first [] falls bars told so_far settled))

  falls_on : (fuel : ℕ) (falls : List Fall) (bars told : List ℕ) → SoFar sys first [] falls bars told → sum bars ≤ fuel
      → (greatest : List ℕ) × IsGreatest sys greatest
  falls_on zero falls bars told so_far le =
      by_list (all_overfilled sys bars)
      (λ none. (
        bars,
        settled_greatest falls bars told so_far
            (settled_from_none sys bars [] (sym none) refl),
      ))
      (λ i is list.
      let f : Fall = fall_of sys bars i in
      absurd (omega (
        arith,
        le,
        sum_falls sys lawful first told bars f (told ++ i ∷ []) (fallen bars f)
            (under_so_far sys lawful first [] falls bars told so_far)
            (first_falls bars told i is list),
      )))
  falls_on (suc fuel) falls bars told so_far le =
      by_list (all_overfilled sys bars)
      (λ none. (
        bars,
        settled_greatest falls bars told so_far
            (settled_from_none sys bars [] (sym none) refl),
      ))
      (λ i is list.
      let f : Fall = fall_of sys bars i in
      let fell = first_falls bars told i is list in
      let less : sum (fallen bars f) < sum bars =
      sum_falls sys lawful first told bars f (told ++ i ∷ []) (fallen bars f)
      (under_so_far sys lawful first [] falls bars told so_far)
      fell in
      falls_on fuel (falls ++ f ∷ []) (fallen bars f) (told ++ i ∷ [])
      (one_more sys lawful first [] falls bars told f (told ++ i ∷ []) (fallen bars f) so_far fell)
      (omega (arith, le, less)))

  pub greatest_exists : (greatest : List ℕ) × IsGreatest sys greatest
  greatest_exists = falls_on (sum sys.ceilings) [] sys.ceilings [] (none_so_far sys lawful first [] sys.ceilings refl)
      (omega arith)

-- The bars fall alike where a wish that they do not stop, and that is not proposed, was given up before.
use Rattle.std.proofs.Common.{ℕ, ◌+◌, ◌-◌, ◌<◌, ◌≡◌, true, false, not, ◌&&◌, List, [], ◌∷◌, length, map, take, inl, inr}
use Rattle.std.proofs.Common.{refl, sym, ◌∙◌, ap, subst, arith, nat_lt}
use Rattle.std.specs.Prelude.{slice_index}
use Rattle.std.specs.List.{list_all, range_with_len}
use Rattle.std.proofs.lemmas.Bool.{and_from, and_parts, both_ways, false_from_ne_true}
use Rattle.std.proofs.lemmas.List.{length-set}
use Rattle.admit_core.specs.declared.dossier.Wish.{Wish}
use Rattle.admit_core.specs.declared.ranking.CallOrder.{CallOrder}
use Rattle.admit_core.specs.declared.records.Fall.{Fall}
use Rattle.admit_core.specs.declared.state.Mark.{Mark}
use Rattle.admit_core.specs.Boarding.{boarding}
use Rattle.admit_core.specs.Falls.{AreFalls, FallingSystem, IsAtMost, IsRunOfFalls, bars_after, fall_of, fallen}
use Rattle.admit_core.specs.Falls.{is_overfilled}
use Rattle.admit_core.specs.Proposals.{is_open, is_proposed}
use Rattle.admit_core.specs.State.{State, is_gone}
use Rattle.admit_core.proofs.DemandLaws.{boarding_is_lawful, open_under_higher, seat_stays}
use Rattle.admit_core.proofs.FallsLaw.{at_set, over_in, over_rank}
use Rattle.change_laws.proofs.Places.{mark_in}
use Rattle.change_laws.proofs.Struck.{IsWaiting, same_free, same_names, same_ranks, struck}

module _ (place : ℕ) (w : Wish) (g : Mark) (gone : is_gone g ≡ true) (s : State) (is : IsWaiting s place w)
    (orders : List CallOrder) (ceilings last : List ℕ)
    (opens : is_open s last w (mark_in s place) ≡ true)
    (none : is_proposed s orders last w (mark_in s place) ≡ false) where
  abbrev now : FallingSystem
  now = boarding s orders ceilings

  abbrev without : FallingSystem
  without = boarding (struck place w g gone s) orders ceilings

  -- under higher bars the wish is open too, and not proposed
  opens_higher : (bars : List ℕ) → IsAtMost last bars → is_open s bars w (mark_in s place) ≡ true
  opens_higher bars above = open_under_higher s orders last bars above w (mark_in s place) opens

  none_higher : (bars : List ℕ) → IsAtMost last bars → is_proposed s orders bars w (mark_in s place) ≡ false
  none_higher bars above =
      false_from_ne_true (is_proposed s orders bars w (mark_in s place)) (λ offers.
      let parts = and_parts (is_open s bars w (mark_in s place)) _ offers in
      let seat = seat_stays s orders last bars above w parts.1 in
      both_ways (is_proposed s orders last w (mark_in s place)) none
      (and_from (is_open s last w (mark_in s place)) _ opens seat))

  ranks_higher : (bars : List ℕ) (h : ℕ) → IsAtMost last bars → without.ranks bars h ≡ now.ranks bars h
  ranks_higher bars h above = same_ranks place w g gone s is orders bars (opens_higher bars above)
      (none_higher bars above) h

  names_higher : (bars : List ℕ) (h r : ℕ) → IsAtMost last bars → without.name bars h r ≡ now.name bars h r
  names_higher bars h r above = same_names place w g gone s is orders bars (opens_higher bars above)
      (none_higher bars above) h r

  frees : without.free ≡ now.free
  frees = λ i. map (λ h. same_free place w g gone s is h i) (range_with_len 0 (length ceilings))

  same_over : (bars : List ℕ) (h : ℕ) → IsAtMost last bars → is_overfilled without bars h ≡ is_overfilled now bars h
  same_over bars h above =
      let ranks = ranks_higher bars h above in
      λ i. nat_lt h (length ceilings) && nat_lt (slice_index (frees i) h) (length (ranks i))

  same_fall : (bars : List ℕ) (h : ℕ) → IsAtMost last bars → fall_of without bars h ≡ fall_of now bars h
  same_fall bars h above =
      let ranks = ranks_higher bars h above in
      λ i. record {
        school = h;
        from = slice_index bars h;
        to = slice_index (ranks i) (slice_index (frees i) h) - 1;
        wishes = map (λ (r : ℕ). names_higher bars h r above i) (take (slice_index (frees i) h + 1) (ranks i));
      }

  at_most_trans : (one two three : List ℕ) → IsAtMost one two → IsAtMost two three → IsAtMost one three
  at_most_trans one two three first second =
      record { as_many = first.as_many ∙ second.as_many; each = λ i. omega (arith, first.each i, second.each i) }

  -- falls only lower the bars
  one_lower : (bars : List ℕ) (f : Fall) → IsAtMost bars ceilings → is_overfilled now bars f.school ≡ true
      → f ≡ fall_of now bars f.school → IsAtMost (fallen bars f) bars
  one_lower bars f under over made =
      let lawful = boarding_is_lawful s orders ceilings in
      let h = f.school in
      let r = slice_index (now.ranks bars h) (slice_index now.free h) in
      let found = over_in now lawful bars h over in
      let rank = over_rank now lawful bars h under over in
      let within : h < length bars = omega (arith, found.0, under.as_many) in
      let to : f.to ≡ r - 1 = ap (λ (x : Fall). x.to) made in
      record {
        as_many = length-set bars h f.to;
        each = λ i. elim (at_set bars h f.to i within) [
          | inl here ↦
              let bar : slice_index bars i ≡ slice_index bars h = ap (slice_index bars) here.0 in
              omega (arith, here.1, to, rank.0, rank.1, bar)
          | inr there ↦ omega (arith, there)
        ];
      }

  all_lower : (bars : List ℕ) (falls : List Fall) → IsAtMost bars ceilings → AreFalls now bars falls
      → IsAtMost (bars_after bars falls) bars
  all_lower bars [] under are = record { as_many = refl; each = λ i. omega arith }
  all_lower bars (f ∷ fs) under are =
      let first = one_lower bars f under are.0 are.1 in
      at_most_trans (bars_after (fallen bars f) fs) (fallen bars f) bars
      (all_lower (fallen bars f) fs (at_most_trans (fallen bars f) bars ceilings first under) are.2) first

  falls_too : (bars : List ℕ) (falls : List Fall) → IsAtMost bars ceilings → AreFalls now bars falls
      → IsAtMost last (bars_after bars falls) → AreFalls without bars falls
  falls_too bars [] under are above = tt
  falls_too bars (f ∷ fs) under are above =
      let first = one_lower bars f under are.0 are.1 in
      let here : IsAtMost last bars = at_most_trans last (bars_after bars (f ∷ fs)) bars above
      (all_lower bars (f ∷ fs) under are) in (
        same_over bars f.school here ∙ are.0,
        are.1 ∙ sym (same_fall bars f.school here),
        falls_too (fallen bars f) fs (at_most_trans (fallen bars f) bars ceilings first under) are.2 above,
      )

  pub run_too : (falls : List Fall) → last ≡ bars_after ceilings falls → IsRunOfFalls now falls
      → IsRunOfFalls without falls
  run_too falls at_last run =
      let start : IsAtMost ceilings ceilings = record { as_many = refl; each = λ i. omega arith } in
      let above : IsAtMost last (bars_after ceilings falls) =
      subst (IsAtMost last) at_last (record { as_many = refl; each = λ i. omega arith }) in
      let bars = bars_after ceilings falls in
      record {
        are_falls = falls_too ceilings falls start run.are_falls above;
        settled = (λ i. list_all (λ h. not (same_over bars h above i)) (range_with_len 0 (length ceilings)))
            ∙ run.settled;
      }

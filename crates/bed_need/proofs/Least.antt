-- With those who live in a school and those who come under the greatest bars, a school has exactly enough beds.
use Rattle.std.proofs.Common.{◌≡◌, ℕ, zero, suc, ◌+◌, ◌-◌, ◌<◌, ◌≤◌, Bool, true, false, not, ◌&&◌, List, [], ◌∷◌, ap}
use Rattle.std.proofs.Common.{arith, cond, filter, inl, inr, length, map, refl}
use Rattle.std.specs.Prelude.{◌==◌, slice_index}
use Rattle.std.proofs.lemmas.Bool.{cases_Bool, cases_eq, cases_lt, eq-eqb, eqb-true, ne_eqb}
use Rattle.std.proofs.lemmas.Cmp.{nat_eq_equiv}
use Rattle.std.proofs.lemmas.List.{length-map}
use Rattle.std.proofs.lemmas.Map.Made.{length-le_from_is_member}
use Rattle.std.proofs.lemmas.Map.Views.{Contains-from_any, list_any-from_Contains}
use Rattle.admit_core.specs.declared.ranking.CallOrder.{CallOrder}
use Rattle.admit_core.specs.declared.state.Stamp.{Stamp}
use Rattle.admit_core.specs.Boarding.{boarding}
use Rattle.admit_core.specs.Days.{offered}
use Rattle.admit_core.specs.DossierRows.{candidates_of}
use Rattle.admit_core.specs.Falls.{FallingSystem, Fits, IsGreatest}
use Rattle.admit_core.specs.LeastBeds.{AreEnough, IsLeastBeds, with_beds}
use Rattle.admit_core.specs.Proposals.{demanded_ranks, is_proposed}
use Rattle.admit_core.specs.State.{State, bed_holders, has_school, holds_bed}
use Rattle.admit_core.specs.Validity.{IsValid}
use Rattle.admit_core.proofs.DemandLaws.{boarding_is_lawful}
use Rattle.admit_core.proofs.FilledSeats.{live_stays, offer_if}
use Rattle.admit_core.proofs.FullBeds.{full_below, rising_distinct}
use Rattle.admit_core.proofs.Holders.{holds_kept}
use Rattle.day_state.proofs.Counting.{count_at_most}
use Rattle.round.proofs.BedLaw.{length-new_bed_holders}
use Rattle.bed_need.specs.Needing.{need_of}
use Rattle.bed_need.proofs.RoomyBeds.{free_here, free_there}

ne_zero : (n : ℕ) → (n ≡ 0 → ⊥) → 0 < n
ne_zero zero other = absurd (other refl)
ne_zero (suc n) other = omega arith

-- those who pass one test or the other, where the one implies the other
parted_step : (p q : Bool) (x : ℕ) (all old new : List ℕ) → (p ≡ true → q ≡ true) → length all ≡ length old + length new
    → length (cond q (x ∷ all) all) ≡ length (cond p (x ∷ old) old) + length (cond (q && not p) (x ∷ new) new)
parted_step true true x all old new implied same = omega (arith, same)
parted_step true false x all old new implied same = absurd (cc (implied refl))
parted_step false true x all old new implied same = omega (arith, same)
parted_step false false x all old new implied same = same

filter_again : (p q : ℕ → Bool) (xs : List ℕ)
    → filter (λ x. not (p x)) (filter q xs) ≡ filter (λ x. q x && not (p x)) xs
filter_again p q [] = refl
filter_again p q (x ∷ xs) = again (q x) (filter_again p q xs) where
  again : (b : Bool) → filter (λ y. not (p y)) (filter q xs) ≡ filter (λ y. q y && not (p y)) xs
      → filter (λ y. not (p y)) (cond b (x ∷ filter q xs) (filter q xs)) ≡ cond (b
      && not (p x)) (x ∷ filter (λ y. q y && not (p y)) xs) (filter (λ y. q y && not (p y)) xs)
  again true rest = rw rest refl
  again false rest = rest

parted : (p q : ℕ → Bool) → ((x : ℕ) → p x ≡ true → q x ≡ true) → (xs : List ℕ)
    → length (filter q xs) ≡ length (filter p xs) + length (filter (λ x. q x && not (p x)) xs)
parted p q implied [] = refl
parted p q implied (x ∷ xs) =
    parted_step (p x) (q x) x (filter q xs) (filter p xs) (filter (λ y. q y && not (p y)) xs) (implied x)
    (parted p q implied xs)

-- those who live in a school after offers: those who lived there, and those who demand a bed
pub holders_after : (s : State) (orders : List CallOrder) (bars : List ℕ) (stamp : Stamp) (h : ℕ) → IsValid s.dossier
    → length (bed_holders (offered s orders bars stamp) h)
    ≡ length (bed_holders s h) + length (demanded_ranks s orders bars h)
holders_after s orders bars stamp h valid =
    let new = offered s orders bars stamp in
    let kept = holds_kept (λ w. has_school w h) s (λ w m. offer_if stamp (is_proposed s orders bars w m) m) in
    let all = parted (λ c. holds_bed s c h) (λ c. holds_bed new c h)
    (λ c lives. kept c (λ w m live. live_stays stamp (is_proposed s orders bars w m) m live)
    lives) (candidates_of s.dossier) in
    omega (
      arith,
      all,
      ap length (filter_again (λ c. holds_bed s c h) (λ c. holds_bed new c h)
          (candidates_of s.dossier)),
      length-new_bed_holders s orders bars stamp valid h,
    )

module _ (s : State) (orders : List CallOrder) (ceilings : List ℕ) (h : ℕ)
    (valid : IsValid s.dossier) (in_range : h < length s.dossier.schools)
    (long : length ceilings ≡ length s.dossier.schools) where
  abbrev with_n : ℕ → FallingSystem
  with_n n = boarding (with_beds s h n) orders ceilings

  abbrev live : ℕ
  live = length (bed_holders s h)

  abbrev coming : List ℕ → ℕ
  coming bars = length (demanded_ranks s orders bars h)

  here : h < length ceilings
  here = omega (arith, in_range, long)

  -- nobody needs more than one bed
  pub few : (bars : List ℕ) → live + coming bars ≤ 16000000
  few bars =
      let stamp : Stamp = record { day = 0; pass = 0 } in
      let new = offered s orders bars stamp in
      let all = count_at_most (λ c. holds_bed new c h) (map (λ w. w.candidate) s.dossier.wishes) in
      omega (
        arith,
        holders_after s orders bars stamp h valid,
        all,
        length-map s.dossier.wishes
            (λ w. w.candidate),
        valid.size.wishes,
      )

  pub few_need : (bars : List ℕ) (need : ℕ) → need ≡ need_of live (live + coming bars) → need ≤ 16000000
  few_need bars need is =
      elim (cases_Bool (live == live + coming bars)) [
        | inl none ↦ let zero_is : need ≡ 0 = rw none at is in rw zero_is (omega arith)
        | inr some ↦ let all_is : need ≡ live + coming bars = rw some at is in rw all_is (few bars)
      ]

  free_in : (n : ℕ) → slice_index (with_n n).free h ≡ n - live
  free_in n = free_here s orders ceilings h n h long here refl

  -- bars that fit with so many beds and not so many candidates fit with others
  fits_with : (n m : ℕ) (bars : List ℕ) → coming bars ≤ m - live → Fits (with_n n) bars → Fits (with_n m) bars
  fits_with n m bars enough fits = record {
    under_ceilings = fits.under_ceilings;
    room = λ i lt.
        elim (cases_eq i h) [
          | inl same ↦ rw same (omega (arith, enough, free_in m))
          | inr other ↦ omega (
            arith,
            fits.room i lt,
            free_there s orders ceilings h n i long lt
                other,
            free_there s orders ceilings h m i long lt other,
          )
        ];
  }

  fits_roomy : (n : ℕ) (bars : List ℕ) → Fits (with_n n) bars → Fits (with_n 2000000000) bars
  fits_roomy n bars fits = let at_most = few bars in fits_with n 2000000000 bars (omega arith) fits

  module _ (bars : List ℕ) (greatest : IsGreatest (with_n 2000000000) bars) where
    -- nobody lacks a bed, so the bar stays where it is
    at_ceiling : slice_index bars h ≡ slice_index ceilings h
    at_ceiling =
        elim (cases_lt (slice_index bars h) (slice_index ceilings h)) [
          | inl low ↦
              let full = full_below (with_n 2000000000) (boarding_is_lawful
              (with_beds s h 2000000000) orders ceilings) bars greatest h low in
              let at_most = few bars in
              absurd (omega (arith, full, free_in 2000000000))
          | inr high ↦ omega (arith, high, greatest.fits.under_ceilings.each h)
        ]

    enough_with : (n : ℕ) → coming bars ≤ n - live → AreEnough s orders ceilings h n
    enough_with n room = (
      bars,
      record {
        fits = fits_with 2000000000 n bars room greatest.fits;
        greatest = λ others fits. greatest.greatest others (fits_roomy n others fits);
      },
      at_ceiling,
    )

    -- with fewer, someone who comes has no bed
    all_come : (k : ℕ) → AreEnough s orders ceilings h k → coming bars ≤ k - live
    all_come k enough =
        let others = enough.0 in
        let at_most = greatest.greatest others (fits_roomy k others enough.1.fits) in
        let others_in : h < length others = omega (arith, here, enough.1.fits.under_ceilings.as_many) in
        let lawful = boarding_is_lawful (with_beds s h 2000000000) orders ceilings in
        let bars_in : h < length bars = omega (arith, here, greatest.fits.under_ceilings.as_many) in
        let more = length-le_from_is_member nat_eq_equiv (demanded_ranks s orders bars h)
        (demanded_ranks s orders others h)
        (rising_distinct (demanded_ranks s orders bars h)
        (lawful.ascending bars h greatest.fits.under_ceilings bars_in))
        (λ q t.
        let demanded = Contains-from_any eqb-true q (demanded_ranks s orders bars h) t in
        let to_bar = lawful.to_bar bars h q greatest.fits.under_ceilings bars_in demanded in
        list_any-from_Contains nat_eq_equiv q (demanded_ranks s orders others h)
        (lawful.stay_demanded others bars h q at_most greatest.fits.under_ceilings others_in
        demanded (omega (arith, to_bar, at_ceiling, enough.2)))) in
        omega (arith, more, enough.1.fits.room h here, free_in k)

    pub needs_least : (need : ℕ) → need ≡ need_of live (live + coming bars) → IsLeastBeds s orders ceilings h need
    needs_least need is =
        elim (cases_eq live (live + coming bars)) [
          | inl none ↦
              let zero_is : need ≡ 0 = rw (eq-eqb live (live + coming bars) none) at is in
              rw zero_is (record { enough = enough_with 0 (omega (arith, none)); least = λ k enough. omega arith })
          | inr some ↦
              let all_is : need ≡ live + coming bars = rw (ne_eqb live (live + coming bars) some) at is in
              let comes : 0 < coming bars =
              elim (cases_eq (coming bars) 0) [
                | inl none ↦ absurd
                    (some (omega (arith, none)))
                | inr more ↦ ne_zero (coming bars) more
              ] in
              rw all_is (record {
                enough = enough_with (live + coming bars) (omega arith);
                least = λ k enough. omega (arith, all_come k enough, comes);
              })
        ]

-- A better boarding rank costs no offer with that school.
use Rattle.std.proofs.Common.{ℕ, ◌-◌, ◌≤◌, ◌<◌, ◌≡◌, ◌⊎◌, true, false, not, ◌&&◌, List, length, inl, inr, refl, sym}
use Rattle.std.proofs.Common.{◌∙◌, ap, subst, arith, nat_lt, set, Option, Some, None}
use Rattle.std.specs.Prelude.{◌≢◌, slice_index, if◌then◌else◌, Contains}
use Rattle.std.proofs.lemmas.Bool.{and_from, and_left, and_parts, cases_Bool, cases_eq, cases_lt, eq-eqb, eqb-true}
use Rattle.std.proofs.lemmas.Bool.{le-ltb, lt-ltb, ne_eqb, not_from_false, not_from_true}
use Rattle.std.proofs.lemmas.List.{get_or-set_other, get_or_past, length-set}
use Rattle.std.proofs.lemmas.Grind.{get_or-set_at}
use Rattle.admit_core.specs.declared.dossier.Wish.{Wish}
use Rattle.admit_core.specs.declared.ranking.CallOrder.{CallOrder}
use Rattle.admit_core.specs.declared.state.Mark.{Mark}
use Rattle.admit_core.specs.Boarding.{boarding}
use Rattle.admit_core.specs.Falls.{IsAtMost, IsGreatest}
use Rattle.admit_core.specs.Proposals.{is_barred, is_behind_bar, is_open, is_proposed}
use Rattle.admit_core.specs.State.{State, has_school, holds_bed, is_school, is_waiting}
use Rattle.admit_core.specs.Validity.{IsValid}
use Rattle.admit_core.proofs.CallRows.{IsIn, in_list}
use Rattle.admit_core.proofs.DemandLaws.{not_barred_step, not_over, open_under_higher, seat_stays}
use Rattle.admit_core.proofs.FallsLaw.{at_set}
use Rattle.admit_core.proofs.Plain.{waits_open}
use Rattle.fairness.specs.Exchanges.{AreNeighbours, BetterBoardingRankCostsNoOffer, exchanged, exchanged_in}
use Rattle.fairness.specs.Exchanges.{with_ranks_exchanged}
use Rattle.fairness.proofs.Beds.{ranks_tell}
use Rattle.fairness.proofs.ByRank.{contains_in}
use Rattle.fairness.proofs.Exchanging.{BarAlike, fits_after, fits_before, of_better, of_other, of_worse, same_bed}
use Rattle.fairness.proofs.Exchanging.{same_proposed}
use Rattle.fairness.proofs.PassedOver.{seat_for}

lt_same : (u r v q : ℕ) → (u < r → v < q) → (v < q → u < r) → nat_lt u r ≡ nat_lt v q
lt_same u r v q on back =
    elim (cases_lt u r) [
      | inl lt ↦ lt-ltb u r lt ∙ sym (lt-ltb v q (on lt))
      | inr le ↦
          elim (cases_lt v q) [
            | inl lt ↦ let again = back lt in absurd (omega (arith, le, again))
            | inr also ↦ le-ltb u r le ∙ sym (le-ltb v q also)
          ]
    ]

-- ---- on which side of a bar a rank stands, before and after
module _ (better worse : ℕ) (first : 1 ≤ better) (below : better < worse) where
  abbrev x : ℕ → ℕ
  x = exchanged better worse

  -- a bar that is not below the worse rank
  under_high : (u r : ℕ) → worse ≤ u → nat_lt u r ≡ nat_lt u (x r)
  under_high u r high =
      elim (cases_eq r worse) [
        | inl is_worse ↦
            let now : x r ≡ better = ap x is_worse ∙ of_worse better worse below in
            lt_same u r u (x r) (λ lt. absurd (omega (arith, lt, high, is_worse)))
            (λ lt. absurd (omega (arith, lt, high, now, below)))
        | inr not_worse ↦ elim (cases_eq r better) [
          | inl is_better ↦
              let now : x r ≡ worse = ap x is_better ∙ of_better better worse below in
              lt_same u r u (x r) (λ lt. absurd (omega (arith, lt, high, is_better, below)))
              (λ lt. absurd (omega (arith, lt, high, now)))
          | inr not_better ↦ ap (nat_lt u) (sym (of_other better worse below r not_worse not_better))
        ]
      ]

  -- a bar below the better rank, where the rank is not the worse one
  under_low : (u r : ℕ) → r ≢ worse → u < better → nat_lt u r ≡ nat_lt u (x r)
  under_low u r not_worse low =
      elim (cases_eq r better) [
        | inl is_better ↦
            let now : x r ≡ worse = ap x is_better ∙ of_better better worse below in
            lt_same u r u (x r) (λ lt. omega (arith, low, now, below)) (λ lt. omega (arith, low, is_better))
        | inr not_better ↦ ap (nat_lt u) (sym (of_other better worse below r not_worse not_better))
      ]

  -- a bar between the two is as one below the better rank was
  under_middle : (u r : ℕ) → r ≢ worse → better ≤ u → u < worse → (better < r → r < worse → ⊥)
      → nat_lt (better - 1) r ≡ nat_lt u (x r)
  under_middle u r not_worse low high none =
      elim (cases_eq r better) [
        | inl is_better ↦
            let now : x r ≡ worse = ap x is_better ∙ of_better better worse below in
            lt_same (better - 1) r u (x r) (λ lt. omega (arith, high, now)) (λ lt. omega (arith, first, is_better))
        | inr not_better ↦
            let now : x r ≡ r = of_other better worse below r not_worse not_better in
            lt_same (better - 1) r u (x r)
            (λ lt.
            elim (cases_lt r worse) [
              | inl lower ↦ absurd (none (beyond r lt not_better) lower)
              | inr higher ↦ omega (arith, high, higher, now)
            ])
            (λ lt. omega (arith, lt, low, now, first))
      ] where
        beyond : (r : ℕ) → better - 1 < r → r ≢ better → better < r
        beyond r lt other = elim (cases_lt better r)
            [ inl on ↦ on | inr le ↦ absurd (other (omega (arith, le, lt, first))) ]

-- who is live in a school is behind no bar there
holder_passes : (s : State) (bars : List ℕ) (w : Wish) (school : Option ℕ) (h : ℕ) → is_school school h ≡ true
    → holds_bed s w.candidate h ≡ true → is_behind_bar s bars w school ≡ false
holder_passes s bars w None h has lives = refl
holder_passes s bars w (Some g) h has lives =
    let here : holds_bed s w.candidate g ≡ true =
    subst (λ (k : ℕ). holds_bed s w.candidate k ≡ true) (sym (eqb-true g h has)) lives in
    and_left (not (holds_bed s w.candidate g)) (nat_lt (slice_index bars g) w.board_rank)
    (not_from_true (holds_bed s w.candidate g) here)

module _ (s : State) (orders : List CallOrder) (h better worse : ℕ) (first : 1 ≤ better) (below : better < worse) where
  abbrev moved : State
  moved = with_ranks_exchanged s h better worse

  abbrev turned : Wish → Wish
  turned = exchanged_in h better worse

  -- bars bar the same where each rank is on the same side, but for those who are live in the school
  alike_by : (bars moved_bars : List ℕ) (v : Wish) (school : Option ℕ)
      → ((k : ℕ) → school ≡ Some k → (holds_bed s v.candidate k ≡ true) ⊎
      (nat_lt (slice_index bars k) v.board_rank ≡ nat_lt (slice_index moved_bars k) (turned v).board_rank))
      → is_behind_bar s bars v school ≡ is_behind_bar moved moved_bars (turned v) school
  alike_by bars moved_bars v None each = refl
  alike_by bars moved_bars v (Some k) each =
      let bed = same_bed s orders h better worse first below v.candidate k in
      elim (each k refl) [
        | inl lives ↦
            and_left (not (holds_bed s v.candidate k)) (nat_lt (slice_index bars k) v.board_rank)
            (not_from_true (holds_bed s v.candidate k) lives)
            ∙ sym (and_left (not (holds_bed moved v.candidate k))
            (nat_lt (slice_index moved_bars k) (turned v).board_rank)
            (not_from_true (holds_bed moved v.candidate k) (bed ∙ lives)))
        | inr same ↦ λ i. not (sym bed i) && same i
      ]

  rank_here : (v : Wish) (k : ℕ) → v.school ≡ Some k → k ≡ h
      → (turned v).board_rank ≡ exchanged better worse v.board_rank
  rank_here v k at is =
      ap (λ (school : Option ℕ). if is_school school h then exchanged better worse v.board_rank else v.board_rank) at
      ∙ rw (eq-eqb k h is) refl

  rank_there : (v : Wish) (k : ℕ) → v.school ≡ Some k → k ≢ h → (turned v).board_rank ≡ v.board_rank
  rank_there v k at other =
      ap (λ (school : Option ℕ). if is_school school h then exchanged better worse v.board_rank else v.board_rank) at
      ∙ rw (ne_eqb k h other) refl

  -- so it is where the bars differ in that school alone, and there each rank is on the same side
  alike_at : (bars moved_bars : List ℕ) → ((k : ℕ) → k ≢ h → slice_index bars k ≡ slice_index moved_bars k)
      → ((v : Wish) → IsIn v s.dossier.wishes → has_school v h ≡ true
      → (holds_bed s v.candidate h ≡ true) ⊎ (nat_lt (slice_index bars h) v.board_rank
      ≡ nat_lt (slice_index moved_bars h) (exchanged better worse v.board_rank)))
      → BarAlike s orders h better worse first below bars moved_bars
  alike_at bars moved_bars others here v has =
      alike_by bars moved_bars v v.school (λ k at.
      elim (cases_eq k h) [
        | inr other ↦ inr (λ i. nat_lt (others k other i) (sym (rank_there v k at other) i))
        | inl is ↦
            let boards : has_school v h ≡ true = ap (λ (school : Option ℕ). is_school school h) at ∙ eq-eqb k h is in
            let side = here v has boards in
            elim side [
              | inl lives ↦ inl (subst (λ (n : ℕ). holds_bed s v.candidate n ≡ true) (sym is) lives)
              | inr same ↦
                  inr (ap (λ (n : ℕ). nat_lt (slice_index bars n) v.board_rank) is ∙ same
                  ∙ (λ i. nat_lt (slice_index moved_bars (sym is i)) (sym (rank_here v k at is) i)))
            ]
      ])

module _ (s : State) (orders : List CallOrder) (ceilings bars moved_bars : List ℕ) (w : Wish) (m : Mark) (h better : ℕ)
    (valid : IsValid s.dossier)
    (listed : Contains s.dossier.wishes w) (has : has_school w h ≡ true) (near : AreNeighbours s h better w.board_rank)
    (greatest : IsGreatest (boarding s orders ceilings) bars)
    (moved_greatest : IsGreatest (boarding (with_ranks_exchanged s h better w.board_rank) orders ceilings) moved_bars)
    (offered : is_proposed s orders bars w m ≡ true) where
  abbrev worse : ℕ
  worse = w.board_rank

  abbrev Alike : List ℕ → List ℕ → Type 0
  Alike = BarAlike s orders h better worse near.from_one near.below

  abbrev StillOffered : Type 0
  StillOffered = is_proposed (with_ranks_exchanged s h better worse) orders moved_bars (exchanged_in h better worse w) m
      ≡ true

  opens : is_open s bars w m ≡ true
  opens = (and_parts (is_open s bars w m) (seat_for orders s bars w.programme w.candidate) offered).0

  has_seat : seat_for orders s bars w.programme w.candidate ≡ true
  has_seat = (and_parts (is_open s bars w m) (seat_for orders s bars w.programme w.candidate) offered).1

  -- where other bars bar the same before, and do not bar the wish
  finish : (low : List ℕ) → Alike low moved_bars → IsAtMost low ceilings → is_open s low w m ≡ true → StillOffered
  finish low alike under still_open =
      let fit = fits_before s orders h better worse near.from_one near.below low moved_bars alike ceilings under
      moved_greatest.fits in
      let seat = seat_stays s orders low bars (greatest.greatest low fit) w has_seat in
      sym (same_proposed s orders h better worse near.from_one near.below low moved_bars alike w m
      (in_list w s.dossier.wishes listed))
      ∙ and_from (is_open s low w m) (seat_for orders s low w.programme w.candidate) still_open seat

  alike_high : (u : List ℕ) → worse ≤ slice_index u h → Alike u u
  alike_high u over =
      alike_at s orders h better worse near.from_one near.below u u (λ k other. refl)
      (λ v there boards. inr (under_high better worse near.from_one near.below (slice_index u h) v.board_rank over))

  guest : holds_bed s w.candidate h ≡ false → StillOffered
  guest away =
      let passes = not_barred_step (is_waiting m) (is_behind_bar s bars w w.school) opens in
      let high : worse ≤ slice_index bars h = not_over s bars w w.school h has
      (not_from_false (holds_bed s w.candidate h) away) passes in
      let fit = fits_after s orders h better worse near.from_one near.below bars bars
      (alike_high bars high) ceilings greatest.fits.under_ceilings greatest.fits in
      let at_most = moved_greatest.greatest bars fit in
      let over : worse ≤ slice_index moved_bars h = omega (arith, high, at_most.each h) in
      finish moved_bars (alike_high moved_bars over) moved_greatest.fits.under_ceilings
      (open_under_higher s orders bars moved_bars at_most w m opens)

  module _ (lives : holds_bed s w.candidate h ≡ true) where
    stays_open : (u : List ℕ) → is_open s u w m ≡ true
    stays_open u =
        waits_open (is_waiting m) (is_behind_bar s u w w.school)
        (and_parts (is_waiting m) (not (is_barred s bars w m)) opens).0
        (holder_passes s u w w.school h has lives)

    -- who has the worse rank is the candidate, who is live there
    side : (v : Wish) → IsIn v s.dossier.wishes → has_school v h ≡ true → (T : Type 0) → (v.board_rank ≢ worse → T)
        → (holds_bed s v.candidate h ≡ true) ⊎ T
    side v there boards T other =
        elim (cases_eq v.board_rank worse) [
          | inl same ↦
              let own = (ranks_tell s.dossier h v w valid (contains_in v s.dossier.wishes there) listed boards has).0
              same in
              inl (subst (λ (c : ℕ). holds_bed s c h ≡ true) (sym own) lives)
          | inr differs ↦ inr (other differs)
        ]

    alike_low : slice_index moved_bars h < better → Alike moved_bars moved_bars
    alike_low low =
        alike_at s orders h better worse near.from_one near.below moved_bars moved_bars (λ k other. refl)
        (λ v there boards. side v there boards _
        (λ differs. under_low better worse near.from_one near.below
        (slice_index moved_bars h) v.board_rank differs low))

    module _ (low : better ≤ slice_index moved_bars h) (high : slice_index moved_bars h < worse) where
      within : h < length moved_bars
      within =
          elim (cases_lt h (length moved_bars)) [
            | inl lt ↦ lt
            | inr past ↦ absurd (omega (arith, low, near.from_one, get_or_past moved_bars h 0 past))
          ]

      abbrev lowered : List ℕ
      lowered = set moved_bars h (better - 1)

      lowered_here : slice_index lowered h ≡ better - 1
      lowered_here = get_or-set_at moved_bars h h (better - 1) 0 refl within

      under : IsAtMost lowered ceilings
      under = record {
        as_many = length-set moved_bars h (better - 1) ∙ moved_greatest.fits.under_ceilings.as_many;
        each = λ j.
            elim (at_set moved_bars h (better - 1) j within) [
              | inl here ↦ omega (
                arith,
                here.1,
                low,
                moved_greatest.fits.under_ceilings.each h,
                ap
                    (slice_index ceilings) here.0,
              )
              | inr there ↦ omega (arith, there, moved_greatest.fits.under_ceilings.each j)
            ];
      }

      alike_middle : Alike lowered moved_bars
      alike_middle =
          alike_at s orders h better worse near.from_one near.below lowered moved_bars
          (λ k other. get_or-set_other moved_bars h k (better - 1) 0 other)
          (λ v there boards.
          side v there boards _ (λ differs.
          ap (λ (n : ℕ). nat_lt n v.board_rank) lowered_here
          ∙ under_middle better worse near.from_one near.below (slice_index moved_bars h) v.board_rank differs low high
          (near.none_between v (contains_in v s.dossier.wishes there) boards)))

    holder : StillOffered
    holder =
        elim (cases_lt (slice_index moved_bars h) worse) [
          | inr over ↦ finish moved_bars (alike_high moved_bars over) moved_greatest.fits.under_ceilings
              (stays_open moved_bars)
          | inl high ↦
              elim (cases_lt (slice_index moved_bars h) better) [
                | inl low ↦ finish moved_bars (alike_low low) moved_greatest.fits.under_ceilings (stays_open moved_bars)
                | inr low ↦ finish (lowered low high) (alike_middle low high) (under low high)
                    (stays_open (lowered low high))
              ]
        ]

  pub still_offered : StillOffered
  still_offered = elim (cases_Bool (holds_bed s w.candidate h)) [ inl lives ↦ holder lives | inr away ↦ guest away ]

pub better_boarding_rank_costs_no_offer : BetterBoardingRankCostsNoOffer
better_boarding_rank_costs_no_offer s orders ceilings bars moved_bars w m h better valid listed has near greatest
    moved_greatest offered =
    still_offered s orders ceilings bars moved_bars w m h better valid listed has near greatest moved_greatest offered

-- A better position in a call order costs no offer there.
use Rattle.std.proofs.Common.{ℕ, ◌+◌, ◌≤◌, ◌<◌, ◌≡◌, Bool, true, false, ◌||◌, List, [], ◌∷◌, ◌++◌, map, length, inl}
use Rattle.std.proofs.Common.{inr, refl, sym, ◌∙◌, ap, subst, arith, filter, nat_eq, nat_lt, count_by, cond}
use Rattle.std.proofs.Common.{length-append}
use Rattle.std.specs.Prelude.{◌≢◌, nat_le}
use Rattle.std.specs.List.{IsDistinct, before_first, list_any}
use Rattle.std.proofs.lemmas.Bool.{and_from, and_parts, cases_Bool, cases_eq, false≢true, le-leb, leb-true, lt-ltb}
use Rattle.std.proofs.lemmas.Bool.{ltb-true, ne_eqb, or_cases, or_from, or_left, or_parts, or_right}
use Rattle.std.proofs.lemmas.Cmp.{nat_eq_equiv}
use Rattle.std.proofs.lemmas.List.{append_assoc}
use Rattle.std.proofs.lemmas.List.Folds.{list_any-append}
use Rattle.std.proofs.lemmas.List.Sums.{sum_by-append}
use Rattle.std.proofs.lemmas.Map.Made.{length-le_from_is_member}
use Rattle.admit_core.specs.declared.dossier.Wish.{Wish}
use Rattle.admit_core.specs.declared.ranking.CallOrder.{CallOrder}
use Rattle.admit_core.specs.declared.state.Mark.{Mark}
use Rattle.admit_core.specs.Boarding.{boarding}
use Rattle.admit_core.specs.DossierRows.{limit_of}
use Rattle.admit_core.specs.Falls.{Fits}
use Rattle.admit_core.specs.Lists.{is_among}
use Rattle.admit_core.specs.Proposals.{demanded_ranks, demands_bed, is_open, order_of, wants_seat}
use Rattle.admit_core.specs.State.{State, entries, holds_seat, seats_left}
use Rattle.admit_core.specs.Validity.{IsValid}
use Rattle.admit_core.proofs.CallRows.{IsIn}
use Rattle.admit_core.proofs.DemandLaws.{Demands, demand_from, demand_parts, demanded, demands_at, open_under_higher}
use Rattle.admit_core.proofs.DemandLaws.{seat_stays}
use Rattle.admit_core.proofs.FullBeds.{rising_distinct}
use Rattle.admit_core.proofs.Tests.{increasing-ascending}
use Rattle.admit_core.proofs.Plain.{nat_eq_sym}
use Rattle.fairness.specs.Exchanges.{BetterPositionCostsNoOffer, IsMovedUp}
use Rattle.fairness.proofs.ByRank.{contains_in}
use Rattle.fairness.proofs.Exchanging.{in_wishes}
use Rattle.fairness.proofs.PassedOver.{called_in, early_in, seat_for}
use Rattle.fairness.proofs.Seams.{before_at, before_others, not_in_front_of}

-- ---- bars that fit under some call orders fit under others that give a seat to nobody more
-- who has a seat under the second orders has one under the first
abbrev SeatsFewer : State → List CallOrder → List CallOrder → List ℕ → Type 0
SeatsFewer s orders others bars =
    (p c : ℕ) → p < length s.dossier.programmes → seat_for others s bars p c ≡ true → seat_for orders s bars p c ≡ true

-- the programme of a valid dossier's wish is there
programme_there : (s : State) (e : Wish × Mark) → IsValid s.dossier → IsIn e (entries s)
    → e.0.programme < length s.dossier.programmes
programme_there s e valid has =
    let (k, lt, at) = contains_in e.0 s.dossier.wishes (in_wishes s.dossier.wishes s.marks e has) in
    subst (λ (w : Wish). w.programme < length s.dossier.programmes) at (valid.wishes k e.0 lt).programme

any_in : {X : Type 0} (p q : X → Bool) (xs : List X) → ((x : X) → IsIn x xs → p x ≡ true → q x ≡ true)
    → list_any p xs ≡ true → list_any q xs ≡ true
any_in p q [] implied t = t
any_in p q (x ∷ xs) implied t =
    elim (or_cases (p x) (list_any p xs) t) [
      | inl here ↦ or_left (q x) (list_any q xs) (implied x (inl refl) here)
      | inr later ↦ or_right (q x) (list_any q xs) (any_in p q xs (λ y has. implied y (inr has)) later)
    ]

fits_with_fewer : (s : State) (orders others : List CallOrder) (ceilings bars : List ℕ) → IsValid s.dossier
    → SeatsFewer s orders others bars
    → Fits (boarding s orders ceilings) bars → Fits (boarding s others ceilings) bars
fits_with_fewer s orders others ceilings bars valid fewer fits = record {
  under_ceilings = fits.under_ceilings;
  room = λ h lt.
      let ranks = demanded_ranks s others bars h in
      let rises = increasing-ascending (map (λ (e : Wish × Mark). e.0.board_rank)
      (filter (λ (e : Wish × Mark). demands_bed s others bars h e.0 e.1) (entries s))) in
      let no_more = length-le_from_is_member nat_eq_equiv ranks (demanded_ranks s orders bars h)
      (rising_distinct ranks rises)
      (λ r t.
      demanded s orders bars h r
      ∙ any_in (demands_at s others bars h r) (demands_at s orders bars h r) (entries s)
      (λ e has both.
      let parts = and_parts (demands_bed s others bars h e.0 e.1) (nat_eq r e.0.board_rank) both in
      let d = demand_parts s others bars h e.0 e.1 parts.0 in
      let now : Demands s orders bars h e.0 e.1 =
      record {
        has = d.has;
        ranked = d.ranked;
        no_bed = d.no_bed;
        opens = d.opens;
        seat = fewer e.0.programme e.0.candidate (programme_there s e valid has) d.seat;
      } in
      and_from (demands_bed s orders bars h e.0 e.1) (nat_eq r e.0.board_rank)
      (demand_from s orders bars h e.0 e.1 now) parts.1)
      (sym (demanded s others bars h r) ∙ t)) in
      omega (arith, no_more, fits.room h lt);
}

-- ---- fewer before, and fewer ahead, keep a seat
weaker : (live : Bool) (long short limit many few left : ℕ) → short ≤ long → few ≤ many
    → ((live || nat_le (long + 1) limit) || nat_lt many left) ≡ true
    → ((live || nat_le (short + 1) limit) || nat_lt few left) ≡ true
weaker live long short limit many few left shorter fewer t =
    elim (or_cases (live || nat_le (long + 1) limit) (nat_lt many left) t) [
      | inl whatever ↦
          or_left (live || nat_le (short + 1) limit) (nat_lt few left)
          (elim (or_cases live (nat_le (long + 1) limit) whatever) [
            | inl lives ↦ or_left live (nat_le (short + 1) limit) lives
            | inr called ↦ or_right live (nat_le (short + 1) limit)
                (le-leb (short + 1) limit (omega (arith, leb-true (long + 1) limit called, shorter)))
          ])
      | inr early ↦
          or_right (live || nat_le (short + 1) limit) (nat_lt few left)
          (lt-ltb few left (omega (arith, ltb-true many left early, fewer)))
    ]

-- who has a seat where another in the same place has none, is live
only_live : (live other called early : Bool) → ((live || called) || early) ≡ true → ((other || called) || early) ≡ false
    → live ≡ true
only_live true other called early t none = refl
only_live false true called early t none = absurd (false≢true (sym none))
only_live false false called early t none = absurd (false≢true (sym none ∙ t))

live_has_seat : (live called early : Bool) → live ≡ true → ((live || called) || early) ≡ true
live_has_seat true called early t = refl
live_has_seat false called early t = absurd (false≢true t)

module _ (s : State) (orders moved : List CallOrder) (p c : ℕ) (is : IsMovedUp s.dossier orders moved p c)
    (bars : List ℕ) where
  abbrev a : ℕ
  a = is.passed

  abbrev wants : ℕ → Bool
  wants = wants_seat s bars p

  once_was : IsDistinct nat_eq (is.front ++ a ∷ c ∷ is.back)
  once_was = subst (IsDistinct nat_eq) is.was is.once

  once_longer : IsDistinct nat_eq ((is.front ++ a ∷ []) ++ c ∷ is.back)
  once_longer = subst (IsDistinct nat_eq) (sym (append_assoc is.front (a ∷ []) (c ∷ is.back))) once_was

  a_not_in_front : is_among a is.front ≡ false
  a_not_in_front = not_in_front_of is.front (c ∷ is.back) a once_was

  c_not_in_longer : is_among c (is.front ++ a ∷ []) ≡ false
  c_not_in_longer = not_in_front_of (is.front ++ a ∷ []) is.back c once_longer

  c_not : (is_among c is.front ≡ false) × (is_among c (a ∷ []) ≡ false)
  c_not = or_parts (is_among c is.front) (is_among c (a ∷ []))
      (sym (list_any-append (nat_eq c) is.front (a ∷ [])) ∙ c_not_in_longer)

  a_is_not_c : nat_eq a c ≡ false
  a_is_not_c = nat_eq_sym a c ∙ (or_parts (nat_eq c a) false c_not.1).0

  a_not_in_longer : is_among a (is.front ++ c ∷ []) ≡ false
  a_not_in_longer = list_any-append (nat_eq a) is.front (c ∷ [])
      ∙ or_from (is_among a is.front) (is_among a (c ∷ [])) a_not_in_front (or_from (nat_eq a c) false a_is_not_c refl)

  -- who stands before each of the two
  a_before : before_first (nat_eq a) (order_of s.dossier orders p) ≡ is.front
  a_before = ap (before_first (nat_eq a)) is.was ∙ before_at is.front (c ∷ is.back) a a_not_in_front

  c_before : before_first (nat_eq c) (order_of s.dossier orders p) ≡ is.front ++ a ∷ []
  c_before =
      ap (before_first (nat_eq c)) (is.was ∙ sym (append_assoc is.front (a ∷ []) (c ∷ is.back)))
      ∙ before_at (is.front ++ a ∷ []) is.back c c_not_in_longer

  c_before_now : before_first (nat_eq c) (order_of s.dossier moved p) ≡ is.front
  c_before_now = ap (before_first (nat_eq c)) is.becomes ∙ before_at is.front (a ∷ is.back) c c_not.0

  a_before_now : before_first (nat_eq a) (order_of s.dossier moved p) ≡ is.front ++ c ∷ []
  a_before_now =
      ap (before_first (nat_eq a)) (is.becomes ∙ sym (append_assoc is.front (c ∷ []) (a ∷ is.back)))
      ∙ before_at (is.front ++ c ∷ []) is.back a a_not_in_longer

  -- a longer prefix has more in it
  longer : (e : ℕ) → length is.front ≤ length (is.front ++ e ∷ [])
  longer e = omega (arith, length-append is.front (e ∷ []))

  more : (e : ℕ) → count_by wants is.front ≤ count_by wants (is.front ++ e ∷ [])
  more e = let one : ℕ → ℕ = λ x. cond (wants x) 1 0 in omega (arith, sum_by-append one is.front (e ∷ []))

  -- what it takes to have a seat, by those before
  abbrev seat_behind : ℕ → List ℕ → Bool
  seat_behind e before = (holds_seat s e p || nat_le (length before + 1) (limit_of s.dossier p))
      || nat_lt (count_by wants before) (seats_left s p)

  seat_earlier : (e x : ℕ) → seat_behind e (is.front ++ x ∷ []) ≡ true → seat_behind e is.front ≡ true
  seat_earlier e x t =
      weaker (holds_seat s e p) (length (is.front ++ x ∷ [])) (length is.front) (limit_of s.dossier p)
      (count_by wants (is.front ++ x ∷ [])) (count_by wants is.front) (seats_left s p)
      (longer x) (more x) t

  -- the one who moves up keeps a seat
  keeps : seat_for orders s bars p c ≡ true → seat_for moved s bars p c ≡ true
  keeps t = ap (seat_behind c) c_before_now ∙ seat_earlier c a (sym (ap (seat_behind c) c_before) ∙ t)

  -- the one passed gains none
  gains_none : seat_for moved s bars p a ≡ true → seat_for orders s bars p a ≡ true
  gains_none t = ap (seat_behind a) a_before ∙ seat_earlier a c (sym (ap (seat_behind a) a_before_now) ∙ t)

  -- and loses one only to the one who moves up
  loses_to : seat_for moved s bars p c ≡ false → seat_for orders s bars p a ≡ true → seat_for moved s bars p a ≡ true
  loses_to none t =
      let called = nat_le (length is.front + 1) (limit_of s.dossier p) in
      let early = nat_lt (count_by wants is.front) (seats_left s p) in
      let live = only_live (holds_seat s a p) (holds_seat s c p) called early (sym (ap (seat_behind a) a_before) ∙ t)
      (sym (ap (seat_behind c) c_before_now) ∙ none) in
      live_has_seat (holds_seat s a p) (called_in moved s p a) (early_in moved s bars p a) live

  -- all others stand as they did
  others_stay : (e : ℕ) → e ≢ a → e ≢ c → seat_for orders s bars p e ≡ seat_for moved s bars p e
  others_stay e not_a not_c =
      let alike = before_others is.front is.back a c e (ne_eqb e a not_a) (ne_eqb e c not_c) in
      ap (λ xs. seat_behind e (before_first (nat_eq e) xs)) is.was
      ∙ (λ i. (holds_seat s e p || nat_le (alike.long i + 1) (limit_of s.dossier p))
      || nat_lt (alike.counts wants i) (seats_left s p))
      ∙ sym (ap (λ xs. seat_behind e (before_first (nat_eq e) xs)) is.becomes)

  elsewhere : (q e : ℕ) → q < length s.dossier.programmes → q ≢ p
      → seat_for moved s bars q e ≡ seat_for orders s bars q e
  elsewhere q e there other =
      ap (λ (xs : List ℕ).
      (holds_seat s e q || nat_le (length (before_first (nat_eq e) xs) + 1) (limit_of s.dossier q))
      || nat_lt (count_by (wants_seat s bars q) (before_first (nat_eq e) xs)) (seats_left s q))
      (is.others q there other)

  -- where the one who moves up has a seat before, nobody more has one afterwards
  fewer_afterwards : seat_for orders s bars p c ≡ true → SeatsFewer s orders moved bars
  fewer_afterwards theirs q e there t =
      elim (cases_eq q p) [
        | inr other ↦ sym (elsewhere q e there other) ∙ t
        | inl same ↦
            let now = subst (λ (n : ℕ). seat_for moved s bars n e ≡ true) same t in
            subst (λ (n : ℕ). seat_for orders s bars n e ≡ true) (sym same)
            (elim (cases_eq e c) [
              | inl is_c ↦ subst (λ (d : ℕ). seat_for orders s bars p d ≡ true) (sym is_c) theirs
              | inr not_c ↦ elim (cases_eq e a) [
                | inl is_a ↦
                    subst (λ (d : ℕ). seat_for orders s bars p d ≡ true) (sym is_a)
                    (gains_none (subst (λ (d : ℕ). seat_for moved s bars p d ≡ true) is_a now))
                | inr not_a ↦ others_stay e not_a not_c ∙ now
              ]
            ])
      ]

  -- where they have none afterwards, nobody had more before
  fewer_before : seat_for moved s bars p c ≡ false → SeatsFewer s moved orders bars
  fewer_before none q e there t =
      elim (cases_eq q p) [
        | inr other ↦ elsewhere q e there other ∙ t
        | inl same ↦
            let was = subst (λ (n : ℕ). seat_for orders s bars n e ≡ true) same t in
            subst (λ (n : ℕ). seat_for moved s bars n e ≡ true) (sym same)
            (elim (cases_eq e c) [
              | inl is_c ↦ subst (λ (d : ℕ). seat_for moved s bars p d ≡ true) (sym is_c)
                  (keeps (subst (λ (d : ℕ). seat_for orders s bars p d ≡ true) is_c was))
              | inr not_c ↦ elim (cases_eq e a) [
                | inl is_a ↦
                    subst (λ (d : ℕ). seat_for moved s bars p d ≡ true) (sym is_a)
                    (loses_to none (subst (λ (d : ℕ). seat_for orders s bars p d ≡ true) is_a was))
                | inr not_a ↦ sym (others_stay e not_a not_c) ∙ was
              ]
            ])
      ]

pub better_position_costs_no_offer : BetterPositionCostsNoOffer
better_position_costs_no_offer s orders moved ceilings bars moved_bars w m valid is greatest moved_greatest offered =
    let p = w.programme in
    let c = w.candidate in
    let parts = and_parts (is_open s bars w m) (seat_for orders s bars p c) offered in
    let still_fit = fits_with_fewer s orders moved ceilings bars valid
    (fewer_afterwards s orders moved p c is bars parts.1) greatest.fits in
    let opens = open_under_higher s orders bars moved_bars (moved_greatest.greatest bars still_fit) w m parts.0 in
    let seat : seat_for moved s moved_bars p c ≡ true =
    elim (cases_Bool (seat_for moved s moved_bars p c)) [
      | inl has ↦ has
      | inr none ↦
          let fit = fits_with_fewer s moved orders ceilings moved_bars valid
          (fewer_before s orders moved p c is moved_bars none) moved_greatest.fits in
          let low = seat_stays s orders moved_bars bars (greatest.greatest moved_bars fit) w parts.1 in
          keeps s orders moved p c is moved_bars low
    ] in
    and_from (is_open s moved_bars w m) (seat_for moved s moved_bars p c) opens seat

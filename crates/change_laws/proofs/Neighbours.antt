-- Where two neighbours change places in a call order and the one who moves up gets no seat, nobody gets or loses one.
use Rattle.std.proofs.Common.{ℕ, ◌+◌, ◌<◌, ◌≤◌, ◌≡◌, Bool, true, false, ◌||◌, List, [], ◌∷◌, ◌++◌, length}
use Rattle.std.proofs.Common.{length-append, cond, inl, inr, refl, sym, ◌∙◌, ap, subst, arith, nat_eq, nat_lt, count_by}
use Rattle.std.specs.Prelude.{nat_le}
use Rattle.std.specs.List.{IsDistinct, before_first}
use Rattle.std.proofs.lemmas.Bool.{cases_eq, false_from_ne_true, leb-true, ltb-true, ne_eqb, or_from, or_parts}
use Rattle.std.proofs.lemmas.List.{append_assoc}
use Rattle.std.proofs.lemmas.List.Folds.{list_any-append}
use Rattle.std.proofs.lemmas.List.Sums.{sum_by-append}
use Rattle.admit_core.specs.declared.ranking.CallOrder.{CallOrder}
use Rattle.admit_core.specs.DossierRows.{limit_of}
use Rattle.admit_core.specs.Lists.{is_among}
use Rattle.admit_core.specs.Proposals.{order_of, wants_seat}
use Rattle.admit_core.specs.State.{State, holds_seat, seats_left}
use Rattle.admit_core.proofs.Plain.{nat_eq_sym}
use Rattle.fairness.specs.Exchanges.{IsMovedUp}
use Rattle.fairness.proofs.PassedOver.{seat_for}
use Rattle.fairness.proofs.Seams.{before_at, before_others, not_in_front_of}

-- ---- who stands before whom, where two neighbours change places
module _ (s : State) (orders moved : List CallOrder) (p c : ℕ) (is : IsMovedUp s.dossier orders moved p c)
    (bars : List ℕ) (none_live : holds_seat s c p ≡ false)
    (beyond : limit_of s.dossier p < length (before_first (nat_eq c) (order_of s.dossier moved p)) + 1)
    (no_seat : seats_left s p
    ≤ count_by (wants_seat s bars p) (before_first (nat_eq c) (order_of s.dossier moved p))) where
  abbrev a : ℕ
  a = is.passed

  -- what it takes to have a seat, by those before
  abbrev seat_after : ℕ → List ℕ → Bool
  seat_after e those =
      (holds_seat s e p || nat_le (length those + 1) (limit_of s.dossier p))
      || nat_lt (count_by (wants_seat s bars p) those) (seats_left s p)

  apart_was : IsDistinct nat_eq (is.front ++ a ∷ c ∷ is.back)
  apart_was = subst (IsDistinct nat_eq) is.was is.once

  longer_was : IsDistinct nat_eq ((is.front ++ a ∷ []) ++ c ∷ is.back)
  longer_was = subst (IsDistinct nat_eq) (sym (append_assoc is.front (a ∷ []) (c ∷ is.back))) apart_was

  c_behind : is_among c (is.front ++ a ∷ []) ≡ false
  c_behind = not_in_front_of (is.front ++ a ∷ []) is.back c longer_was

  c_apart : (is_among c is.front ≡ false) × (is_among c (a ∷ []) ≡ false)
  c_apart = or_parts (is_among c is.front) (is_among c (a ∷ []))
      (sym (list_any-append (nat_eq c) is.front (a ∷ [])) ∙ c_behind)

  a_apart : is_among a (is.front ++ c ∷ []) ≡ false
  a_apart =
      list_any-append (nat_eq a) is.front (c ∷ [])
      ∙ or_from (is_among a is.front) (is_among a (c ∷ [])) (not_in_front_of is.front (c ∷ is.back) a apart_was)
      (or_from (nat_eq a c) false (nat_eq_sym a c ∙ (or_parts (nat_eq c a) false c_apart.1).0) refl)

  before_a : before_first (nat_eq a) (order_of s.dossier orders p) ≡ is.front
  before_a = ap (before_first (nat_eq a)) is.was
      ∙ before_at is.front (c ∷ is.back) a (not_in_front_of is.front (c ∷ is.back) a apart_was)

  before_a_now : before_first (nat_eq a) (order_of s.dossier moved p) ≡ is.front ++ c ∷ []
  before_a_now = ap (before_first (nat_eq a)) (is.becomes ∙ sym (append_assoc is.front (c ∷ []) (a ∷ is.back)))
      ∙ before_at (is.front ++ c ∷ []) is.back a a_apart

  before_c : before_first (nat_eq c) (order_of s.dossier orders p) ≡ is.front ++ a ∷ []
  before_c = ap (before_first (nat_eq c)) (is.was ∙ sym (append_assoc is.front (a ∷ []) (c ∷ is.back)))
      ∙ before_at (is.front ++ a ∷ []) is.back c c_behind

  before_c_now : before_first (nat_eq c) (order_of s.dossier moved p) ≡ is.front
  before_c_now = ap (before_first (nat_eq c)) is.becomes ∙ before_at is.front (a ∷ is.back) c c_apart.0

  -- whoever has at least the front before them has a seat only where they are live
  only_by_living : (e : ℕ) (those : List ℕ) → length is.front ≤ length those
      → count_by (wants_seat s bars p) is.front ≤ count_by (wants_seat s bars p) those
      → seat_after e those ≡ holds_seat s e p
  only_by_living e those long many =
      let limit = limit_of s.dossier p in
      let left = seats_left s p in
      let n = length those + 1 in
      let ahead_of = count_by (wants_seat s bars p) those in
      let at_front : length (before_first (nat_eq c) (order_of s.dossier moved p)) ≡ length is.front =
      ap length before_c_now in
      let wanting : count_by (wants_seat s bars p) (before_first (nat_eq c) (order_of s.dossier moved p))
      ≡ count_by (wants_seat s bars p) is.front = ap (count_by (wants_seat s bars p)) before_c_now in
      let not_called : nat_le n limit ≡ false = false_from_ne_true (nat_le n limit) (λ called.
      let within = leb-true n limit called in omega (arith, within, beyond, at_front, long)) in
      let not_early : nat_lt ahead_of left ≡ false = false_from_ne_true (nat_lt ahead_of left) (λ early.
      let few = ltb-true ahead_of left early in omega (arith, few, no_seat, wanting, many)) in
      rw (not_called, not_early) (two_falses (holds_seat s e p))
    where
      two_falses : (b : Bool) → ((b || false) || false) ≡ b
      two_falses true = refl
      two_falses false = refl

  more_in : (x : ℕ) → count_by (wants_seat s bars p) is.front ≤ count_by (wants_seat s bars p) (is.front ++ x ∷ [])
  more_in x =
      let one : ℕ → ℕ = λ y. cond (wants_seat s bars p y) 1 0 in
      omega (arith, sum_by-append one is.front (x ∷ []))

  -- so nobody gets or loses a seat
  same_seat_there : (e : ℕ) → seat_for orders s bars p e ≡ seat_for moved s bars p e
  same_seat_there e =
      elim (cases_eq e c) [
        | inl is_c ↦
            subst (λ (x : ℕ). seat_for orders s bars p x ≡ seat_for moved s bars p x) (sym is_c)
            (ap (seat_after c) before_c
            ∙ only_by_living c (is.front ++ a ∷ []) (omega (arith, length-append is.front (a ∷ []))) (more_in a)
            ∙ sym (ap (seat_after c) before_c_now
            ∙ only_by_living c is.front (omega arith) (omega arith)))
        | inr not_c ↦ elim (cases_eq e a) [
          | inl is_a ↦
              subst (λ (x : ℕ). seat_for orders s bars p x ≡ seat_for moved s bars p x) (sym is_a)
              (ap (seat_after a) before_a ∙ only_by_living a is.front (omega arith) (omega arith)
              ∙ sym (ap (seat_after a) before_a_now
              ∙ only_by_living a (is.front ++ c ∷ []) (omega (arith, length-append is.front (c ∷ []))) (more_in c)))
          | inr not_a ↦
              let alike = before_others is.front is.back a c e (ne_eqb e a not_a) (ne_eqb e c not_c) in
              ap (λ xs. seat_after e (before_first (nat_eq e) xs)) is.was
              ∙ (λ i. (holds_seat s e p || nat_le (alike.long i + 1) (limit_of s.dossier p))
              || nat_lt (alike.counts (wants_seat s bars p) i) (seats_left s p))
              ∙ sym (ap (λ xs. seat_after e (before_first (nat_eq e) xs)) is.becomes)
        ]
      ]

  pub same_seats : (q e : ℕ) → q < length s.dossier.programmes
      → seat_for orders s bars q e ≡ seat_for moved s bars q e
  same_seats q e there =
      elim (cases_eq q p) [
        | inl same ↦
            subst (λ (x : ℕ). seat_for orders s bars x e ≡ seat_for moved s bars x e) (sym same) (same_seat_there e)
        | inr other ↦
            sym (ap (λ (xs : List ℕ).
            (holds_seat s e q || nat_le (length (before_first (nat_eq e) xs) + 1) (limit_of s.dossier q))
            || nat_lt (count_by (wants_seat s bars q) (before_first (nat_eq e) xs)) (seats_left s q))
            (is.others q there other))
      ]

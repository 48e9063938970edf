-- No programme takes in more candidates than it has seats left, or than its call limit.
use Rattle.std.proofs.Common.{ℕ, ◌+◌, ◌-◌, ◌≤◌, ◌<◌, ◌≡◌, Bool, true, false, cond, not, ◌&&◌, ◌||◌, List, [], ◌∷◌, map}
use Rattle.std.proofs.Common.{length, get_or, inl, inr, refl, sym, ◌∙◌, ap, arith, filter, nat_eq, nat_lt, nat_le, zero}
use Rattle.std.proofs.Common.{suc, count_by}
use Rattle.std.specs.Prelude.{max, ◌==◌, option_map, unwrap_or, slice_get, All}
use Rattle.std.specs.List.{before_first, position_or_len, IsDistinct, AllByRecursion}
use Rattle.std.proofs.lemmas.Bool.{cases_Bool, and_parts, and_from, or_cases, or_left, or_right, not-true, eqb-true}
use Rattle.std.proofs.lemmas.Bool.{eq-eqb, ltb-true, leb-true, false≢true}
use Rattle.std.proofs.lemmas.Option.{unwrap_or-slice_get}
use Rattle.std.proofs.lemmas.List.{get_or_default}
use Rattle.std.proofs.lemmas.List.Folds.{list_any_at}
use Rattle.std.proofs.lemmas.List.Sums.{length-filter, count_by-le-length}
use Rattle.std.proofs.lemmas.Cmp.{nat_eq_equiv}
use Rattle.std.proofs.lemmas.Map.Made.{length-le_from_is_member}
use Rattle.std.proofs.lemmas.Map.Keys.{IsDistinct-head, IsDistinct-tail}
use Rattle.admit_core.specs.declared.dossier.Wish.{Wish}
use Rattle.admit_core.specs.declared.state.Mark.{Mark}
use Rattle.admit_core.specs.declared.state.Stamp.{Stamp}
use Rattle.admit_core.specs.declared.ranking.CallOrder.{CallOrder}
use Rattle.admit_core.specs.declared.ranking.RankGroup.{RankGroup}
use Rattle.admit_core.specs.Lists.{is_among}
use Rattle.admit_core.specs.DossierRows.{group_of, limit_of, candidates_of}
use Rattle.admit_core.specs.CallOrder.{AreCallOrders}
use Rattle.admit_core.specs.Validity.{IsValid, IsValidGroup}
use Rattle.admit_core.specs.State.{State, entries, holds_seat, seats_left, seat_holders}
use Rattle.admit_core.specs.Proposals.{is_open, wants_seat, has_open_wish, order_of, before, ahead, needs_no_seat}
use Rattle.admit_core.specs.Proposals.{is_open_in}
use Rattle.admit_core.specs.Days.{offered}
use Rattle.admit_core.proofs.OrderPermutes.{distinct-order}
use Rattle.admit_core.proofs.Plain.{nat_eq_sym}
use Rattle.admit_core.proofs.Counting.{distinct_kept}
use Rattle.admit_core.proofs.ClosedEvenings.{among_filter}
use Rattle.day_state.specs.Kept.{wish_in}
use Rattle.proposals.proofs.Calling.{all_called}
use Rattle.round.specs.PassLaws.{new_seat_holders}
use Rattle.round.proofs.Members.{among_filtered, distinct_once, none_twice}
use Rattle.round.proofs.NewHolders.{MakesLive, becomes_live, entry_wish}

-- 1 where it is true
abbrev one_if : Bool → ℕ
one_if b = cond b 1 0

length_filter_cons : (p : ℕ → Bool) (x : ℕ) (xs : List ℕ)
    → length (filter p (x ∷ xs)) ≡ length (filter p xs) + one_if (p x)
length_filter_cons p x xs = elim (p x) as (λ b. length (cond b (x ∷ filter p xs) (filter p xs))
    ≡ length (filter p xs) + one_if b) [ true ↦ omega arith | false ↦ omega arith ]

-- what stands before a later one begins with the first
before_later : (c x : ℕ) (xs : List ℕ) → nat_eq c x ≡ false
    → before_first (nat_eq c) (x ∷ xs) ≡ x ∷ before_first (nat_eq c) xs
before_later c x xs other =
    let k : ℕ = position_or_len (nat_eq c) xs in
    let e : 1 + k ≡ suc k = omega arith in
    rw (other, e) refl

differs : (n c : ℕ) (ns : List ℕ) → AllByRecursion (λ m. nat_eq n m ≡ false) ns → is_among c ns ≡ true
    → nat_eq c n ≡ false
differs n c [] all among = absurd (cc)
differs n c (m ∷ ms) all among =
    elim (or_cases (nat_eq c m) (is_among c ms) among) [
      | inl here ↦ rw (eqb-true c m here) (nat_eq_sym m n ∙ all.0)
      | inr later ↦ differs n c ms all.1 later
    ]

-- of those in an order who want a seat, few have less than m others before them who want one
few_served : (served wants : ℕ → Bool) (m n : ℕ) (order : List ℕ) → IsDistinct nat_eq order
    → ((c : ℕ) → is_among c order ≡ true → served c ≡ true
    → (wants c ≡ true) × (n + length (filter wants (before_first (nat_eq c) order)) < m))
    → length (filter served order) ≤ m - n
few_served served wants m n [] apart each = omega arith
few_served served wants m n (x ∷ xs) apart each =
    let head = IsDistinct-head nat_eq x xs apart in
    let rest : length (filter served xs) ≤ m - (n + one_if (wants x)) =
    few_served served wants m (n + one_if (wants x)) xs (IsDistinct-tail nat_eq x xs apart)
    (λ c among serves.
    let old = each c (or_right (nat_eq c x) (is_among c xs) among) serves in
    let fronts : length (filter wants (before_first (nat_eq c) (x ∷ xs)))
    ≡ length (filter wants (before_first (nat_eq c) xs)) + one_if (wants x) =
    rw (before_later c x xs (differs x c xs head among)) (length_filter_cons wants x (before_first (nat_eq c) xs)) in
    (old.0, omega (arith, old.1, fronts))) in
    elim (cases_Bool (served x)) [
      | inl serves ↦
          let here = each x (or_left (nat_eq x x) (is_among x xs) (eq-eqb x x refl)) serves in
          let wanted : one_if (wants x) ≡ 1 = rw here.0 refl in
          omega (arith, length_filter_cons served x xs, here.1, rest, wanted, ap one_if serves)
      | inr other ↦ omega (arith, length_filter_cons served x xs, rest, ap one_if other)
    ]

-- nobody stands twice in the call order at a place
order_once : (groups : List RankGroup) (orders : List CallOrder) (k : ℕ) → AreCallOrders groups orders
    → All IsValidGroup groups
    → IsDistinct nat_eq (unwrap_or (option_map (λ (o : CallOrder). o.list) (slice_get orders k)) [])
order_once [] [] k are valid = none_twice
order_once [] (o ∷ os) k are valid = absurd are
order_once (g ∷ gs) [] k are valid = absurd are
order_once (g ∷ gs) (o ∷ os) zero are valid = distinct-order g o (valid 0 g (omega arith)).ranking are.0
order_once (g ∷ gs) (o ∷ os) (suc k) are valid = order_once gs os k are.1 (λ i d lt. valid (suc i) d (omega arith))

module _ (s : State) (orders : List CallOrder) (bars : List ℕ) (stamp : Stamp) (valid : IsValid s.dossier)
    (are : AreCallOrders s.dossier.groups orders) where
  called_once : (p : ℕ) → IsDistinct nat_eq (order_of s.dossier orders p)
  called_once p = order_once s.dossier.groups orders (group_of s.dossier p) are valid.groups

  -- who becomes live in a programme is called, wants a seat, and has few before them who want one
  served : (p c : ℕ) → MakesLive s orders bars (λ w. w.programme == p) c → holds_seat s c p ≡ false
      → (is_among c (order_of s.dossier orders p) ≡ true) × (wants_seat s bars p c ≡ true)
      × (length (filter (wants_seat s bars p) (before_first (nat_eq c) (order_of s.dossier orders p)))
      < max (seats_left s p) (limit_of s.dossier p))
  served p c makes before =
      let e = makes.entry in
      let w = e.0 in
      let m = e.1 in
      let own : w.candidate ≡ c = eqb-true w.candidate c makes.own in
      let named : w.programme ≡ p = eqb-true w.programme p makes.passes in
      let parts = and_parts (is_open s bars w m)
      (needs_no_seat s orders w || nat_lt (ahead s orders bars w) (seats_left s w.programme)) makes.offers in
      let front = before_first (nat_eq c) (order_of s.dossier orders p) in
      let opens : is_open_in s bars p c w m ≡ true =
      and_from (is_open s bars w m && (w.candidate == c)) (w.programme == p)
      (and_from (is_open s bars w m) (w.candidate == c) parts.0 makes.own) makes.passes in
      let there : is_open_in s bars p c (get_or (entries s) makes.place e).0 (get_or (entries s) makes.place e).1
      ≡ true = rw makes.here opens in
      let has : has_open_wish s bars p c ≡ true =
      list_any_at (λ (x : Wish × Mark). is_open_in s bars p c x.0 x.1)
      (entries s) makes.place e makes.within there in
      let wanting : wants_seat s bars p c ≡ true =
      and_from (has_open_wish s bars p c) (not (holds_seat s c p)) has (rw before refl) in
      let seat : (holds_seat s c p || nat_le (length front + 1) (limit_of s.dossier p)
      || nat_lt (count_by (wants_seat s bars p) front) (seats_left s p)) ≡ true =
      rw (← own, ← named) parts.1 in
      let few : length (filter (wants_seat s bars p) front) < max (seats_left s p) (limit_of s.dossier p) =
      elim (or_cases (holds_seat s c p || nat_le (length front + 1) (limit_of s.dossier p))
      (nat_lt (count_by (wants_seat s bars p) front) (seats_left s p)) seat) [
        | inl sure ↦ elim (or_cases (holds_seat s c p) (nat_le (length front + 1) (limit_of s.dossier p)) sure) [
          | inl held ↦ absurd (false≢true (sym before ∙ held))
          | inr called ↦ omega (
            arith,
            leb-true (length front + 1) (limit_of s.dossier p) called,
            length-filter
                (wants_seat s bars p) front,
            count_by-le-length (wants_seat s bars p) front,
          )
        ]
        | inr left ↦ omega (
          arith,
          ltb-true (count_by (wants_seat s bars p) front) (seats_left s p) left,
          length-filter
              (wants_seat s bars p) front,
        )
      ] in
      let listed = entry_wish s makes.place e makes.within makes.here in
      let is : wish_in s.dossier.wishes makes.place ≡ w =
      unwrap_or-slice_get s.dossier.wishes makes.place (wish_in [] 0)
      ∙ get_or_default s.dossier.wishes makes.place (wish_in [] 0) w listed.0 ∙ listed.1 in
      let called = (all_called s.dossier valid orders are).each makes.place listed.0 in
      (rw (own, named) at (rw is at called), wanting, few)

  -- who is new in a programme
  new_seat : (p c : ℕ) → is_among c (new_seat_holders s (offered s orders bars stamp) p) ≡ true
      → (holds_seat (offered s orders bars stamp) c p ≡ true) × (holds_seat s c p ≡ false)
  new_seat p c among =
      let outer = among_filtered (λ x. not (holds_seat s x p)) c (seat_holders (offered s orders bars stamp) p) among in
      let inner = among_filtered (λ x. holds_seat (offered s orders bars stamp) x p) c
      (candidates_of s.dossier) outer.0 in
      (inner.1, not-true (holds_seat s c p) outer.1)

  pub seats_suffice : (p : ℕ) → length (new_seat_holders s (offered s orders bars stamp) p)
      ≤ max (seats_left s p) (limit_of s.dossier p)
  seats_suffice p =
      let new = offered s orders bars stamp in
      let order = order_of s.dossier orders p in
      let serves = λ (c : ℕ). holds_seat new c p && not (holds_seat s c p) in
      let once : IsDistinct nat_eq (new_seat_holders s new p) =
      distinct_kept (λ c. not (holds_seat s c p)) (seat_holders new p)
      (distinct_kept (λ c. holds_seat new c p) (candidates_of s.dossier)
      (distinct_once (map (λ w. w.candidate) s.dossier.wishes))) in
      let within = length-le_from_is_member nat_eq_equiv (new_seat_holders s new p) (filter serves order) once
      (λ c among.
      let is_new = new_seat p c among in
      let facts = served p c (becomes_live s orders bars stamp (λ w. w.programme == p) c is_new.0 is_new.1) is_new.1 in
      among_filter serves c order facts.0 (and_from (holds_seat new c p) (not (holds_seat s c p)) is_new.0
      (rw is_new.1 refl))) in
      let few : length (filter serves order) ≤ max (seats_left s p) (limit_of s.dossier p) - 0 =
      few_served serves (wants_seat s bars p) (max (seats_left s p) (limit_of s.dossier p)) 0 order (called_once p)
      (λ c among serving.
      let parts = and_parts (holds_seat new c p) (not (holds_seat s c p)) serving in
      let before = not-true (holds_seat s c p) parts.1 in
      let facts = served p c (becomes_live s orders bars stamp (λ w. w.programme == p) c parts.0 before) before in
      (facts.1, omega (arith, facts.2))) in
      omega (arith, within, few)

-- Where an open wish is not proposed, whoever becomes live in its programme comes before its candidate.
use Rattle.std.proofs.Common.{ℕ, ◌+◌, ◌≤◌, ◌<◌, ◌≡◌, Bool, true, false, not, ◌||◌, List, length, take, inl, inr, sym}
use Rattle.std.proofs.Common.{◌∙◌, subst, arith, nat_eq, nat_lt, count_by}
use Rattle.std.specs.Prelude.{nat_le}
use Rattle.std.specs.List.{before_first}
use Rattle.std.proofs.lemmas.Bool.{and_cases, and_parts, both_ways, cases_lt, eqb-true, false≢true, leb-false, leb-true}
use Rattle.std.proofs.lemmas.Bool.{ltb-false, ltb-true, not-true, or_cases, or_parts}
use Rattle.std.proofs.lemmas.List.{get_or-take, length-take-le}
use Rattle.std.proofs.lemmas.List.Folds.{list_any_at}
use Rattle.std.proofs.lemmas.List.Sums.{passes_at_first, prefix_len-le-length}
use Rattle.admit_core.specs.declared.dossier.Wish.{Wish}
use Rattle.admit_core.specs.declared.ranking.CallOrder.{CallOrder}
use Rattle.admit_core.specs.declared.state.Mark.{Mark}
use Rattle.admit_core.specs.Days.{offered}
use Rattle.admit_core.specs.DossierRows.{candidates_of, limit_of}
use Rattle.admit_core.specs.Lists.{is_among}
use Rattle.admit_core.specs.Proposals.{ahead, is_open, is_proposed, needs_no_seat, order_of, position_of, wants_seat}
use Rattle.admit_core.specs.State.{State, holds_seat, seat_holders, seats_left}
use Rattle.admit_core.proofs.Counting.{count_front}
use Rattle.round.proofs.Members.{among_filtered}
use Rattle.round.proofs.NewHolders.{becomes_live}
use Rattle.fairness.specs.OrderPromises.{place_in}
use Rattle.fairness.specs.PassPromises.{NobodyIsPassedOver}

pub place_at_most : (xs : List ℕ) (c : ℕ) → place_in xs c ≤ length xs
place_at_most xs c = prefix_len-le-length (λ x. not (nat_eq c x)) xs

-- who has an earlier place stands in the prefix
pub among_taken : (xs : List ℕ) (c n : ℕ) → place_in xs c < n → n ≤ length xs → is_among c (take n xs) ≡ true
among_taken xs c n earlier le =
    let k = place_in xs c in
    let there = passes_at_first (nat_eq c) xs 0 (omega (arith, earlier, le)) in
    let within : k < length (take n xs) = omega (arith, earlier, length-take-le n xs le) in
    list_any_at (nat_eq c) (take n xs) k 0 within (rw (get_or-take n xs k 0 earlier) there)

-- why an open wish is not proposed: its candidate is not live in the programme, nor within the call limit, and no seat
-- is left
pub record IsRefused (s : State) (orders : List CallOrder) (bars : List ℕ) (w : Wish) : Type 0 where
  pub not_live : holds_seat s w.candidate w.programme ≡ false
  pub beyond : limit_of s.dossier w.programme < position_of s orders w
  pub no_seat : seats_left s w.programme ≤ ahead s orders bars w

pub refused_by : (s : State) (orders : List CallOrder) (bars : List ℕ) (w : Wish) (m : Mark) → is_open s bars w m ≡ true
    → is_proposed s orders bars w m ≡ false → IsRefused s orders bars w
refused_by s orders bars w m opens not_proposed =
    let left = seats_left s w.programme in
    let live = holds_seat s w.candidate w.programme in
    let called = nat_le (position_of s orders w) (limit_of s.dossier w.programme) in
    let early = nat_lt (ahead s orders bars w) left in
    let neither : (needs_no_seat s orders w || early) ≡ false =
    elim (and_cases (is_open s bars w m) (needs_no_seat s orders w || early) not_proposed) [
      | inl closed ↦ absurd (both_ways (is_open s bars w m) closed opens)
      | inr none ↦ none
    ] in
    let parts = or_parts (needs_no_seat s orders w) early neither in
    let inner = or_parts live called parts.0 in
    record {
      not_live = inner.0;
      beyond = leb-false (position_of s orders w) (limit_of s.dossier w.programme) inner.1;
      no_seat = ltb-false (ahead s orders bars w) left parts.1;
    }

-- a candidate's part of what it takes to be proposed: they are live in the programme, or within its call limit, or a
-- seat is left
abbrev pub early_in : List CallOrder → State → List ℕ → ℕ → ℕ → Bool
early_in orders s bars p c =
    nat_lt (count_by (wants_seat s bars p) (before_first (nat_eq c) (order_of s.dossier orders p))) (seats_left s p)

abbrev pub called_in : List CallOrder → State → ℕ → ℕ → Bool
called_in orders s p c = nat_le (length (before_first (nat_eq c) (order_of s.dossier orders p)) + 1)
    (limit_of s.dossier p)

abbrev pub seat_for : List CallOrder → State → List ℕ → ℕ → ℕ → Bool
seat_for orders s bars p c = (holds_seat s c p || called_in orders s p c) || early_in orders s bars p c

-- who has no earlier place than one who is refused is refused too
refused_later : (s : State) (orders : List CallOrder) (bars : List ℕ) (w : Wish) (c : ℕ) → IsRefused s orders bars w
    → place_in (order_of s.dossier orders w.programme) w.candidate ≤ place_in (order_of s.dossier orders w.programme) c
    → holds_seat s c w.programme ≡ false → seat_for orders s bars w.programme c ≡ true → ⊥
refused_later s orders bars w c why later not_live seat =
    let p = w.programme in
    let xs = order_of s.dossier orders p in
    let n = place_in xs w.candidate in
    let k = place_in xs c in
    let longs = length-take-le n xs (place_at_most xs w.candidate) in
    let longer = length-take-le k xs (place_at_most xs c) in
    let more = count_front (wants_seat s bars p) xs n k later in
    elim (or_cases (holds_seat s c p || called_in orders s p c) (early_in orders s bars p c) seat) [
      | inl whatever ↦
          elim (or_cases (holds_seat s c p) (called_in orders s p c) whatever) [
            | inl live ↦ false≢true (sym not_live ∙ live)
            | inr called ↦ let within = leb-true (length (take k xs) + 1) (limit_of s.dossier p) called in
                omega (arith, within, why.beyond, longs, longer, later)
          ]
      | inr early ↦ let few = ltb-true (count_by (wants_seat s bars p) (take k xs)) (seats_left s p) early in
          omega (arith, few, more, why.no_seat)
    ]

pub nobody_is_passed_over : NobodyIsPassedOver
nobody_is_passed_over s orders bars stamp w m c opens not_proposed new =
    let p = w.programme in
    let xs = order_of s.dossier orders p in
    let after = offered s orders bars stamp in
    let outer = among_filtered (λ x. not (holds_seat s x p)) c (seat_holders after p) new in
    let inner = among_filtered (λ x. holds_seat after x p) c (candidates_of s.dossier) outer.0 in
    let not_live = not-true (holds_seat s c p) outer.1 in
    let makes = becomes_live s orders bars stamp (λ (v : Wish). nat_eq v.programme p) c inner.1 not_live in
    let x = makes.entry.0 in
    let seat : seat_for orders s bars x.programme x.candidate ≡ true =
    (and_parts (is_open s bars x makes.entry.1) (seat_for orders s bars x.programme x.candidate) makes.offers).1 in
    let same_p : x.programme ≡ p = eqb-true x.programme p makes.passes in
    let same_c : x.candidate ≡ c = eqb-true x.candidate c makes.own in
    let seat_of_c : seat_for orders s bars p c ≡ true =
    subst (λ (q : ℕ). seat_for orders s bars q c ≡ true) same_p
    (subst (λ (d : ℕ). seat_for orders s bars x.programme d ≡ true) same_c seat) in
    elim (cases_lt (place_in xs c) (place_in xs w.candidate)) [
      | inl earlier ↦ among_taken xs c (place_in xs w.candidate) earlier (place_at_most xs w.candidate)
      | inr later ↦ absurd (refused_later s orders bars w c (refused_by s orders bars w m opens not_proposed) later
          not_live seat_of_c)
    ]

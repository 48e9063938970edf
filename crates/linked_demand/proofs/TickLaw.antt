-- A list of falls changes no more than twice the waiting wishes.
use Rattle.std.proofs.Common.{ℕ, ◌+◌, ◌*◌, ◌≤◌, ◌<◌, ◌≡◌, Bool, true, false, not, ◌&&◌, ◌||◌, List, [], ◌∷◌, length}
use Rattle.std.proofs.Common.{inl, inr, refl, arith, nat_lt, count_by, filter, cond}
use Rattle.std.specs.Prelude.{slice_index, slice_set}
use Rattle.std.proofs.lemmas.Bool.{cases_Bool, and_parts, false≢true}
use Rattle.std.proofs.lemmas.List.Sums.{length-filter}
use Rattle.std.proofs.lemmas.List.{get_or-set_same, get_or-set_other, length-set}
use Rattle.std.proofs.lemmas.Bool.{cases_eq}
use Rattle.admit_core.specs.declared.dossier.Wish.{Wish}
use Rattle.admit_core.specs.declared.state.Mark.{Mark}
use Rattle.admit_core.specs.declared.ranking.CallOrder.{CallOrder}
use Rattle.admit_core.specs.declared.records.Fall.{Fall}
use Rattle.admit_core.specs.State.{State, entries, is_waiting, seats_left}
use Rattle.admit_core.specs.Proposals.{is_behind_bar, is_barred, is_open, is_proposed, needs_no_seat, ahead}
use Rattle.admit_core.specs.Falls.{IsAtMost, fallen}
use Rattle.admit_core.proofs.DemandLaws.{behind_lower, seat_stays}
use Rattle.linked_demand.specs.Ticks.{becomes_barred, becomes_proposed, changes_between, rest_under, changes_over}
use Rattle.linked_demand.specs.Ticks.{AllLower, FallsSpendTheRest, TheRestIsSmall, ChangesAreFew}

-- a sum over a list
abbrev pub total : {X : Type 0} → (X → ℕ) → List X → ℕ
total f [] = 0
total f (x ∷ xs) = f x + total f xs

filter_total : {X : Type 0} (p : X → Bool) (xs : List X) → length (filter p xs) ≡ total (λ x. cond (p x) 1 0) xs
filter_total p [] = refl
filter_total p (x ∷ xs) =
    elim (cases_Bool (p x)) [
      | inl passes ↦ rw passes (omega (arith, filter_total p xs))
      | inr fails ↦ rw fails (omega (arith, filter_total p xs))
    ]

count_total : {X : Type 0} (p : X → Bool) (xs : List X) → count_by p xs ≡ total (λ x. cond (p x) 1 0) xs
count_total p xs = omega (arith, length-filter p xs, filter_total p xs)

total_le : {X : Type 0} (f g h k : X → ℕ) → ((x : X) → f x + g x + h x ≤ k x) → (xs : List X)
    → total f xs + total g xs + total h xs ≤ total k xs
total_le f g h k le [] = omega arith
total_le f g h k le (x ∷ xs) = omega (arith, le x, total_le f g h k le xs)

-- what a wish can still cost: an open one that is not proposed two, a proposed one one
abbrev can_cost : State → List CallOrder → List ℕ → Wish × Mark → ℕ
can_cost s orders bars e = cond (is_open s bars e.0 e.1) (cond (is_proposed s orders bars e.0 e.1) 1 2) 0

-- one wish: it waits, is behind the lower and the higher bar, and has a seat left under them
one : (waits low high seat_low seat_high : Bool) → (high ≡ true → low ≡ true) → (seat_high ≡ true → seat_low ≡ true)
    → cond ((waits && low) && not (waits && high)) 1 0
    + cond (((waits && not (waits && low)) && seat_low) && not ((waits && not (waits && high)) && seat_high)) 1 0
    + cond (waits && not (waits && low)) (cond ((waits && not (waits && low)) && seat_low) 1 2) 0
    ≤ cond (waits && not (waits && high)) (cond ((waits && not (waits && high)) && seat_high) 1 2) 0
one false low high a b h k = omega arith
one true true true a b h k = omega arith
one true true false a true h k = omega arith
one true true false a false h k = omega arith
one true false true a b h k = absurd (false≢true (h refl))
one true false false true true h k = omega arith
one true false false true false h k = omega arith
one true false false false true h k = absurd (false≢true (k refl))
one true false false false false h k = omega arith

module _ (s : State) (orders : List CallOrder) (lower upper : List ℕ) (at_most : IsAtMost lower upper) where
  one_wish : (e : Wish × Mark)
      → cond (becomes_barred s upper lower e) 1 0 + cond (becomes_proposed s orders upper lower e) 1
      0 + can_cost s orders lower e ≤ can_cost s orders upper e
  one_wish e =
      one (is_waiting e.1) (is_behind_bar s lower e.0 e.0.school) (is_behind_bar s upper e.0 e.0.school)
      (needs_no_seat s orders e.0 || nat_lt (ahead s orders lower e.0) (seats_left s e.0.programme))
      (needs_no_seat s orders e.0 || nat_lt (ahead s orders upper e.0) (seats_left s e.0.programme))
      (behind_lower s orders lower upper at_most e.0 e.0.school)
      (seat_stays s orders lower upper at_most e.0)

  -- where bars fall, what changes is no longer to come
  pub changes_spent : changes_between s orders upper lower + total (can_cost s orders lower)
      (entries s) ≤ total (can_cost s orders upper) (entries s)
  changes_spent =
      omega (
        arith,
        total_le (λ (e : Wish × Mark). cond (becomes_barred s upper lower e) 1 0)
            (λ (e : Wish × Mark). cond (becomes_proposed s orders upper lower e) 1 0)
            (can_cost s orders lower) (can_cost s orders upper) one_wish (entries s),
        count_total (becomes_barred s upper lower) (entries s),
        count_total (becomes_proposed s orders upper lower) (entries s),
      )

pub fall_at_most : (bars : List ℕ) (i to : ℕ) → i < length bars → to ≤ slice_index bars i
    → IsAtMost (slice_set bars i to) bars
fall_at_most bars i to within le =
    record {
      as_many = length-set bars i to;
      each = λ j. elim (cases_eq j i) [
        | inl same ↦ rw same (omega (arith, get_or-set_same bars i to 0 within))
        | inr other ↦ omega (arith, get_or-set_other bars i j to 0 other)
      ];
    }

falls_spent : (s : State) (orders : List CallOrder) (bars : List ℕ) (falls : List Fall) → AllLower bars falls
    → changes_over s orders bars falls ≤ total (can_cost s orders bars) (entries s)
falls_spent s orders bars [] all = omega arith
falls_spent s orders bars (f ∷ fs) all =
    omega (
      arith,
      changes_spent s orders (fallen bars f) bars (fall_at_most bars f.school f.to all.0 all.1),
      falls_spent s orders (fallen bars f) fs all.2,
    )

cost_bits : (opens proposed waits : Bool) → (opens ≡ true → waits ≡ true)
    → cond opens (cond proposed 1 2) 0 ≤ 2 * cond waits 1 0
cost_bits true true true h = omega arith
cost_bits true false true h = omega arith
cost_bits true proposed false h = absurd (false≢true (h refl))
cost_bits false proposed waits h = omega arith

can_cost_waiting : (s : State) (orders : List CallOrder) (bars : List ℕ) (es : List (Wish × Mark))
    → total (can_cost s orders bars) es ≤ 2 * total (λ (e : Wish × Mark). cond (is_waiting e.1) 1 0) es
can_cost_waiting s orders bars [] = omega arith
can_cost_waiting s orders bars (e ∷ es) =
    omega (
      arith,
      cost_bits (is_open s bars e.0 e.1) (is_proposed s orders bars e.0 e.1) (is_waiting e.1)
          (λ t. (and_parts (is_waiting e.1) (not (is_barred s bars e.0 e.1)) t).0),
      can_cost_waiting s orders bars es,
    )

rest_bits : (opens seat : Bool)
    → cond opens (cond (opens && seat) 1 2) 0 ≡ 2 * cond (opens && not (opens && seat)) 1 0 + cond (opens && seat) 1 0
rest_bits true true = refl
rest_bits true false = refl
rest_bits false seat = refl

total_rest : (s : State) (orders : List CallOrder) (bars : List ℕ) (es : List (Wish × Mark))
    → total (can_cost s orders bars) es
    ≡ 2 * total (λ (e : Wish × Mark). cond
    (is_open s bars e.0 e.1 && not (is_proposed s orders bars e.0 e.1)) 1 0) es + total
    (λ (e : Wish × Mark). cond (is_proposed s orders bars e.0 e.1) 1 0) es
total_rest s orders bars [] = refl
total_rest s orders bars (e ∷ es) =
    omega (
      arith,
      rest_bits (is_open s bars e.0 e.1)
          (needs_no_seat s orders e.0 || nat_lt (ahead s orders bars e.0) (seats_left s e.0.programme)),
      total_rest s orders bars es,
    )

-- the rest is what all wishes can still cost
rest_is : (s : State) (orders : List CallOrder) (bars : List ℕ)
    → total (can_cost s orders bars) (entries s) ≡ rest_under s orders bars
rest_is s orders bars =
    omega (
      arith,
      total_rest s orders bars (entries s),
      count_total (λ (e : Wish × Mark). is_open s bars e.0 e.1 && not (is_proposed s orders bars e.0 e.1)) (entries s),
      count_total (λ (e : Wish × Mark). is_proposed s orders bars e.0 e.1) (entries s),
    )

pub falls_spend_the_rest : FallsSpendTheRest
falls_spend_the_rest s orders bars i to within le =
    omega (
      arith,
      changes_spent s orders (slice_set bars i to) bars (fall_at_most bars i to within le),
      rest_is s orders (slice_set bars i to),
      rest_is s orders bars,
    )

pub the_rest_is_small : TheRestIsSmall
the_rest_is_small s orders bars =
    omega (
      arith,
      can_cost_waiting s orders bars (entries s),
      count_total
          (λ (e : Wish × Mark). is_waiting e.1) (entries s),
      rest_is s orders bars,
    )

pub changes_are_few : ChangesAreFew
changes_are_few s orders bars falls all =
    omega (
      arith,
      falls_spent s orders bars falls all,
      can_cost_waiting s orders bars (entries s),
      count_total (λ (e : Wish × Mark). is_waiting e.1) (entries s),
    )

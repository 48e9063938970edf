-- The same candidates have a place in every stable matching, and each programme has as many: against the best matching,
-- who has a place in another has one in it, and no programme has fewer in the other.
use Rattle.std.proofs.Common.{ℕ, zero, suc, ◌+◌, ◌≤◌, ◌<◌, ◌≡◌, Bool, true, false, cond, List, [], ◌∷◌, length, filter}
use Rattle.std.proofs.Common.{inl, inr, refl, sym, ◌∙◌, ap, arith, nat_eq, nat_lt}
use Rattle.std.specs.Prelude.{Option, Some, None, is_some, slice_index}
use Rattle.std.specs.List.{before_first, range_with_len}
use Rattle.std.proofs.lemmas.Bool.{cases_Bool, cases_lt, and_parts, or_cases, or_left, or_right, or_parts, eqb-true}
use Rattle.std.proofs.lemmas.Bool.{eq-eqb, lt-ltb, le-ltb, false≢true, false_from_ne_true}
use Rattle.std.proofs.lemmas.Cmp.{nat_eq_equiv}
use Rattle.std.proofs.lemmas.List.{get_or_past}
use Rattle.std.proofs.lemmas.Map.Made.{length-le_from_is_member}
use Rattle.admit_core.specs.Lists.{is_among}
use Rattle.admit_core.proofs.Counting.{distinct_kept}
use Rattle.admit_core.proofs.FullBeds.{rising_distinct}
use Rattle.admit_core.proofs.Tests.{Implies, filter_implied}
use Rattle.day_state.proofs.Ascending.{range_rises}
use Rattle.linked_demand.proofs.HousedRows.{filter_among}
use Rattle.markets.specs.Markets.{MarketRows, IsMarket, list_of, lists_it}
use Rattle.markets.specs.Matchings.{place_of, is_at, holders, prefers, would_take, IsStable, IsBestForAll}
use Rattle.markets.specs.Placed.{HaveSamePlaced}
use Rattle.markets.proofs.Firsts.{range_has, at_place, before_no}
use Rattle.markets.proofs.Positions.{is_candidate, is_programme}
use Rattle.markets.specs.Bars.{market_system, matched_under}
use Rattle.markets.proofs.Lawful.{market_is_lawful}
use Rattle.markets.specs.Laws.{GreatestBarsPlaceTheSame, ThereIsABest, TheSameHavePlaces}
use Rattle.markets.proofs.Best.{greatest_is_best}
use Rattle.markets.proofs.Existing.{greatest_exists}
use Rattle.markets.proofs.Stable.{greatest_is_stable}

-- a sum over the numbers below a count
abbrev total : (ℕ → ℕ) → ℕ → ℕ
total f zero = 0
total f (suc n) = total f n + f n

total_le : (f g : ℕ → ℕ) (n : ℕ) → ((p : ℕ) → p < n → f p ≤ g p) → total f n ≤ total g n
total_le f g zero le = omega arith
total_le f g (suc n) le = omega (arith, total_le f g n (λ p lt. le p (omega (arith, lt))), le n (omega arith))

-- where none is more and the sums are the same, each is the same
total_same : (f g : ℕ → ℕ) (n : ℕ) → ((p : ℕ) → p < n → f p ≤ g p) → total f n ≡ total g n → (p : ℕ) → p < n → f p ≡ g p
total_same f g zero le same p lt = absurd (omega (arith, lt))
total_same f g (suc n) le same p lt =
    let front : total f n ≤ total g n = total_le f g n (λ q q_lt. le q (omega (arith, q_lt))) in
    let last : f n ≤ g n = le n (omega arith) in
    elim (cases_lt p n) [
      | inl before ↦ total_same f g n (λ q q_lt. le q (omega (arith, q_lt))) (omega (arith, same, front, last)) p before
      | inr past ↦
          let here : p ≡ n = omega (arith, lt, past) in
          let ends : f n ≡ g n = omega (arith, same, front, last) in
          ap f here ∙ ends ∙ ap g (sym here)
    ]

abbrev one_if : Bool → ℕ
one_if b = cond b 1 0

total_none : (n : ℕ) → total (λ p. one_if (is_at p None)) n ≡ 0
total_none zero = refl
total_none (suc n) = omega (arith, total_none n)

-- a place is in one programme
total_one : (q n : ℕ) → total (λ p. one_if (is_at p (Some q))) n ≡ one_if (nat_lt q n)
total_one q zero = sym (ap one_if (le-ltb q 0 (omega arith)))
total_one q (suc n) =
    let rest = total_one q n in
    elim (cases_lt q n) [
      | inl lt ↦
          let other : one_if (nat_eq n q) ≡ 0 = ap one_if (false_from_ne_true (nat_eq n q)
          (λ t. omega (arith, eqb-true n q t, lt))) in
          let front : one_if (nat_lt q n) ≡ 1 = ap one_if (lt-ltb q n lt) in
          let whole : one_if (nat_lt q (suc n)) ≡ 1 = ap one_if (lt-ltb q (suc n) (omega (arith, lt))) in
          omega (arith, rest, other, front, whole)
      | inr past ↦
          let front : one_if (nat_lt q n) ≡ 0 = ap one_if (le-ltb q n past) in
          elim (cases_Bool (nat_eq n q)) [
            | inl here ↦
                let one : one_if (nat_eq n q) ≡ 1 = ap one_if here in
                let whole : one_if (nat_lt q (suc n)) ≡ 1 =
                ap one_if (lt-ltb q (suc n) (omega (arith, eqb-true n q here))) in
                omega (arith, rest, one, front, whole)
            | inr other ↦
                let none : one_if (nat_eq n q) ≡ 0 = ap one_if other in
                let apart : q ≡ n → ⊥ = λ e. false≢true (sym other ∙ eq-eqb n q (sym e)) in
                let whole : one_if (nat_lt q (suc n)) ≡ 0 = ap one_if (le-ltb q (suc n) (omega (arith, past, apart))) in
                omega (arith, rest, none, front, whole)
          ]
    ]

total_place : (o : Option ℕ) (n : ℕ) → ((q : ℕ) → o ≡ Some q → q < n)
    → total (λ p. one_if (is_at p o)) n ≡ one_if (is_some o)
total_place None n below = total_none n
total_place (Some q) n below = total_one q n ∙ ap one_if (lt-ltb q n (below q refl))

total_both : (f g h : ℕ → ℕ) (n : ℕ) → ((p : ℕ) → h p ≡ f p + g p) → total h n ≡ total f n + total g n
total_both f g h zero is = refl
total_both f g h (suc n) is = omega (arith, total_both f g h n is, is n)

-- one more in front
counted_more : (t : ℕ → Bool) (x : ℕ) (xs : List ℕ) → length (filter t (x ∷ xs)) ≡ one_if (t x) + length (filter t xs)
counted_more t x xs = by (t x)
  where
    by : (b : Bool) → length (cond b (x ∷ filter t xs) (filter t xs)) ≡ one_if b + length (filter t xs)
    by true = omega arith
    by false = omega arith

-- those who have a place are those who have one in some programme
total_placed : (place : ℕ → Option ℕ) (n : ℕ) → ((x q : ℕ) → place x ≡ Some q → q < n) → (xs : List ℕ)
    → total (λ p. length (filter (λ x. is_at p (place x)) xs)) n ≡ length (filter (λ x. is_some (place x)) xs)
total_placed place n below [] = total_zero n
  where
    total_zero : (k : ℕ) → total (λ p. 0) k ≡ 0
    total_zero zero = refl
    total_zero (suc k) = omega (arith, total_zero k)
total_placed place n below (x ∷ xs) =
    total_both (λ p. one_if (is_at p (place x))) (λ p. length (filter (λ y. is_at p (place y)) xs))
    (λ p. length (filter (λ y. is_at p (place y)) (x ∷ xs))) n
    (λ p. counted_more (λ y. is_at p (place y)) x xs)
    ∙ omega (
      arith,
      total_place (place x) n (below x),
      total_placed place n below xs,
      counted_more
          (λ y. is_some (place y)) x xs,
    )

-- where as many pass a weaker test, the same pass
same_kept : (t u : ℕ → Bool) → Implies t u → (xs : List ℕ) → length (filter t xs) ≡ length (filter u xs) → (x : ℕ)
    → is_among x xs ≡ true
    → t x ≡ u x
same_kept t u weaker [] same x among = absurd (false≢true among)
same_kept t u weaker (y ∷ ys) same x among =
    let less = filter_implied t u weaker ys in
    let front = counted_more t y ys in
    let back = counted_more u y ys in
    let here : t y ≡ u y =
    elim (cases_Bool (t y)) [
      | inl passes ↦ passes ∙ sym (weaker y passes)
      | inr fails ↦
          let none : one_if (t y) ≡ 0 = ap one_if fails in
          fails
          ∙ sym (false_from_ne_true (u y) (λ passes.
          let one : one_if (u y) ≡ 1 = ap one_if passes in
          omega (arith, same, less, front, back, none, one)))
    ] in
    let alike : one_if (t y) ≡ one_if (u y) = ap one_if here in
    let rest : length (filter t ys) ≡ length (filter u ys) = omega (arith, same, front, back, alike) in
    elim (or_cases (nat_eq x y) (is_among x ys) among) [
      | inl is ↦ let e : x ≡ y = eqb-true x y is in ap t e ∙ here ∙ ap u (sym e)
      | inr later ↦ same_kept t u weaker ys rest x later
    ]

-- all programmes are preferred to no place
all_preferred : (xs : List ℕ) → before_first (λ q. is_at q None) xs ≡ xs
all_preferred [] = refl
all_preferred (x ∷ xs) = before_no (λ q. is_at q None) x xs refl ∙ ap (λ ys. x ∷ ys) (all_preferred xs)

-- of two programmes of a list one is preferred
pub other_first : (p : ℕ) (o : Option ℕ) (xs : List ℕ) → is_among p xs ≡ true → is_at p o ≡ false
    → is_among p (before_first (λ q. is_at q o) xs) ≡ false
    → (q : ℕ) × ((o ≡ Some q) × (is_among q (before_first (λ r. is_at r (Some p)) xs) ≡ true))
other_first p o [] among apart out = absurd (false≢true among)
other_first p o (y ∷ ys) among apart out =
    let test : ℕ → Bool = λ q. is_at q o in
    let own : ℕ → Bool = λ r. is_at r (Some p) in
    elim (cases_Bool (test y)) [
      | inl here ↦
          let o_is : o ≡ Some y = at_place y o here in
          let differs : own y ≡ false =
          false_from_ne_true (nat_eq y p)
          (λ e. false≢true (sym apart ∙ ap (λ k. is_at k o) (sym (eqb-true y p e)) ∙ here)) in (
            y,
            (
              o_is,
              rw (before_no own y ys differs)
                  (or_left (nat_eq y y) (is_among y (before_first own ys)) (eq-eqb y y refl)),
            ),
          )
      | inr there ↦
          let parts = or_parts (nat_eq p y) (is_among p (before_first test ys))
          (rw (before_no test y ys there) at out) in
          let later : is_among p ys ≡ true =
          elim (or_cases (nat_eq p y) (is_among p ys) among)
          [ inl e ↦ absurd (false≢true (sym parts.0 ∙ e)) | inr l ↦ l ] in
          let differs : own y ≡ false =
          false_from_ne_true (nat_eq y p) (λ e. false≢true (sym parts.0 ∙ eq-eqb p y (sym (eqb-true y p e)))) in
          let (q, (o_is, first)) = other_first p o ys later apart parts.1 in
          (q, (o_is, rw (before_no own y ys differs) (or_right (nat_eq q y) (is_among q (before_first own ys)) first)))
    ]

module _ (m : MarketRows) (is : IsMarket m) (best : List (Option ℕ)) (stable : IsStable m best)
    (is_best : IsBestForAll m best)
    (other : List (Option ℕ)) (other_stable : IsStable m other) where
  range : List ℕ
  range = range_with_len 0 (length m.lists)

  placed_in : List (Option ℕ) → ℕ → Bool
  placed_in places x = is_some (place_of places x)

  -- who has a place in the other has one in the best
  placed_stay : Implies (placed_in other) (placed_in best)
  unfolding placed_in
  placed_stay x t = by (place_of other x) refl (place_of best x) refl t
    where
      by : (o : Option ℕ) → place_of other x ≡ o → (b : Option ℕ) → place_of best x ≡ b → is_some o ≡ true
          → is_some b ≡ true
      by None at b b_at some = absurd (false≢true some)
      by (Some p) at (Some q) b_at some = refl
      by (Some p) at None b_at some =
          let among : is_among p (before_first (λ q. is_at q (place_of best x)) (list_of m x)) ≡ true =
          ap (λ (b : Option ℕ). is_among p (before_first (λ q. is_at q b) (list_of m x))) b_at
          ∙ ap (is_among p) (all_preferred (list_of m x)) ∙ other_stable.matching.listed x p at in
          absurd (false≢true (sym (is_best other other_stable x p at) ∙ among))

  -- no programme has fewer in the other
  no_fewer : (p : ℕ) → p < length m.orders → length (holders best p) ≤ length (holders other p)
  no_fewer p lt =
      let range_of : List (Option ℕ) → List ℕ = λ places. range_with_len 0 (length places) in
      let at : List (Option ℕ) → ℕ → Bool = λ places x. is_at p (place_of places x) in
      elim (cases_lt (length (holders other p)) (length (holders best p))) [
        | inr le ↦ le
        | inl fewer ↦
            let free : length (holders other p) < slice_index m.seats p =
            omega (arith, fewer, stable.matching.seated p (omega (arith, lt, is.one_seat_each))) in
            length-le_from_is_member nat_eq_equiv (holders best p) (holders other p)
            (distinct_kept (at best) (range_of best) (rising_distinct (range_of best) (range_rises 0 (length best))))
            (λ x among.
            let both = and_parts (is_among x (range_of best)) (at best x)
            (sym (filter_among (at best) x (range_of best)) ∙ among) in
            let here : place_of best x ≡ Some p = at_place p (place_of best x) both.1 in
            let on_list : lists_it m p x ≡ true = stable.matching.listed x p here in
            elim (cases_Bool (at other x)) [
              | inl holds ↦
                  let x_lt : x < length other = omega (
                    arith,
                    is_candidate m is p x on_list,
                    other_stable.matching.one_place_each,
                  ) in
                  filter_among (at other) x (range_of other)
                  ∙ rw (range_has x 0 (length other) (omega arith) (omega (arith, x_lt)), holds) refl
              | inr apart ↦
                  elim (cases_Bool (prefers m other x p)) [
                    | inl wants ↦
                        let takes : would_take m other p x ≡ true =
                        or_left (nat_lt (length (holders other p)) (slice_index m.seats p)) _
                        (lt-ltb (length (holders other p)) (slice_index m.seats p) free) in
                        absurd (false≢true (sym (other_stable.no_block x p wants) ∙ takes))
                    | inr content ↦
                        let (q, (q_at, first)) = other_first p (place_of other x) (list_of m x) on_list apart content in
                        let better : prefers m best x q ≡ true =
                        ap (λ (b : Option ℕ). is_among q (before_first (λ r. is_at r b) (list_of m x))) here ∙ first in
                        absurd (false≢true (sym (is_best other other_stable x q q_at) ∙ better))
                  ]
            ])
      ]

  programme_below : (places : List (Option ℕ)) → IsStable m places → (x q : ℕ) → place_of places x ≡ Some q
      → q < length m.orders
  programme_below places its x q at = is_programme m is q x (its.matching.listed x q at)

  -- all who have a place, counted by programmes
  by_programmes : (places : List (Option ℕ)) → IsStable m places
      → total (λ p. length (holders places p)) (length m.orders) ≡ length (filter (placed_in places) range)
  unfolding placed_in range
  by_programmes places its =
      total_placed (place_of places) (length m.orders) (programme_below places its) (range_with_len 0 (length places))
      ∙ ap (λ n. length (filter (λ x. is_some (place_of places x)) (range_with_len 0 n))) its.matching.one_place_each

  as_many : (length (filter (placed_in other) range) ≡ length (filter (placed_in best) range))
      × (total (λ p. length (holders best p)) (length m.orders)
      ≡ total (λ p. length (holders other p)) (length m.orders))
  as_many =
      let placed = filter_implied (placed_in other) (placed_in best) placed_stay range in
      let sums = total_le (λ p. length (holders best p)) (λ p. length (holders other p)) (length m.orders) no_fewer in
      let one = by_programmes best stable in
      let two = by_programmes other other_stable in
      (omega (arith, placed, sums, one, two), omega (arith, placed, sums, one, two))

  pub same_placed : HaveSamePlaced m best other
  unfolding placed_in range
  same_placed =
      record {
        candidates = λ x. elim (cases_lt x (length m.lists)) [
          | inl lt ↦
              sym (same_kept (placed_in other) (placed_in best) placed_stay range as_many.0 x
              (range_has x 0 (length m.lists) (omega arith) (omega (arith, lt))))
          | inr past ↦
              ap is_some (get_or_past best x None (omega (arith, past, stable.matching.one_place_each)))
              ∙ sym (ap is_some (get_or_past other x None (omega (arith, past, other_stable.matching.one_place_each))))
        ];
        programmes = total_same (λ p. length (holders best p)) (λ p. length (holders other p))
            (length m.orders) no_fewer as_many.1;
      }

pub placed_in_all : GreatestBarsPlaceTheSame
placed_in_all = λ m bars is greatest others stable.
    same_placed m is (matched_under m bars) (greatest_is_stable m bars is greatest)
    (greatest_is_best m bars is greatest) others stable

pub there_is_a_best : ThereIsABest
there_is_a_best = λ m is.
    let (bars, greatest) = greatest_exists (market_system m) (market_is_lawful m is) in
    (matched_under m bars, greatest_is_stable m bars is greatest, greatest_is_best m bars is greatest)

pub any_two : TheSameHavePlaces
any_two = λ m one other is one_stable other_stable.
    let (best, stable, is_best) = there_is_a_best m is in
    let first : HaveSamePlaced m best one = same_placed m is best stable is_best one one_stable in
    let second : HaveSamePlaced m best other = same_placed m is best stable is_best other other_stable in
    record {
      candidates = λ x. sym (first.candidates x) ∙ second.candidates x;
      programmes = λ p lt. sym (first.programmes p lt) ∙ second.programmes p lt;
    }

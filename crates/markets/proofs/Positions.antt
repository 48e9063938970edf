-- Positions in orders, and what the rows of a market say of them.
use Rattle.std.proofs.Common.{ℕ, suc, ◌+◌, ◌-◌, ◌≤◌, ◌<◌, ◌≡◌, Bool, true, false, cond, not, ◌&&◌, List, [], ◌∷◌}
use Rattle.std.proofs.Common.{length, get_or, inl, inr, refl, sym, ◌∙◌, ap, arith, nat_eq, nat_lt}
use Rattle.std.specs.List.{list_all, before_first, position_or_len, range_with_len, IsDistinct}
use Rattle.std.proofs.lemmas.Bool.{cases_lt, cases_order, and_parts, or_cases, eqb-true, eq-eqb, ltb-true, false≢true}
use Rattle.std.proofs.lemmas.Cmp.{nat_eq_equiv}
use Rattle.std.proofs.lemmas.List.{get_or_past, length-take-le}
use Rattle.std.proofs.lemmas.List.Sums.{passes_at_first, prefix_len-le-length}
use Rattle.std.proofs.lemmas.Map.Made.{IsDistinct-from_count}
use Rattle.std.proofs.lemmas.Map.Keys.{apart_from_distinct}
use Rattle.admit_core.specs.Lists.{is_among, distinct}
use Rattle.linked_demand.proofs.CalledRows.{among_itself}
use Rattle.linked_demand.proofs.HousedRows.{filter_among}
use Rattle.markets.specs.Markets.{MarketRows, IsMarket, list_of, market_order, lists_it, listers, is_distinct}
use Rattle.markets.specs.Markets.{market_position, candidate_at}
use Rattle.markets.proofs.Firsts.{one_of_all, range_has}

-- one who is in an order stands at a first place of it
pub first_place : (x : ℕ) (xs : List ℕ) → is_among x xs ≡ true
    → position_or_len (nat_eq x) xs < length xs
first_place x [] t = absurd (false≢true t)
first_place x (y ∷ ys) t =
    elim (or_cases (nat_eq x y) (is_among x ys) t) [
      | inl here ↦ rw here (omega arith)
      | inr later ↦
          let rest : position_or_len (nat_eq x) ys < length ys = first_place x ys later in
          elim (nat_eq x y) as (λ b. cond (not b) (1 + position_or_len (nat_eq x) ys) 0
          < suc (length ys))
          [ true ↦ omega arith | false ↦ omega arith ]
    ]

pub length_before : (u : ℕ → Bool) (xs : List ℕ) → length (before_first u xs) ≡ position_or_len u xs
length_before u xs =
    length-take-le (position_or_len u xs) xs (prefix_len-le-length (λ x. not (u x)) xs)

-- what is among a list stands at the first place where it is found
pub at_first : (x : ℕ) (xs : List ℕ) → is_among x xs ≡ true
    → get_or xs (position_or_len (nat_eq x) xs) 0 ≡ x
at_first x xs t =
    sym (eqb-true x (get_or xs (position_or_len (nat_eq x) xs) 0)
    (passes_at_first (nat_eq x) xs 0 (first_place x xs t)))

-- where none stands twice, each is found at the place where it stands
pub only_place : (xs : List ℕ) (x i : ℕ) → IsDistinct nat_eq xs → i < length xs → get_or xs i 0 ≡ x
    → position_or_len (nat_eq x) xs ≡ i
only_place xs x i apart lt here =
    let j : ℕ = position_or_len (nat_eq x) xs in
    let among : is_among x xs ≡ true = ap (λ y. is_among y xs) (sym here) ∙ among_itself xs i lt in
    let j_lt : j < length xs = first_place x xs among in
    let same : get_or xs j 0 ≡ get_or xs i 0 = at_first x xs among ∙ sym here in
    elim (cases_order j i) [
      | inl e ↦ e
      | inr (inl before) ↦
          absurd
          (false≢true (sym (apart_from_distinct nat_eq xs j i 0 apart before lt) ∙ eq-eqb
          (get_or xs j 0) (get_or xs i 0) same))
      | inr (inr after) ↦
          absurd (false≢true (sym (apart_from_distinct nat_eq xs i j 0 apart after j_lt)
          ∙ eq-eqb (get_or xs i 0) (get_or xs j 0) (sym same)))
    ]

pub distinct_from : (xs : List ℕ) → is_distinct xs ≡ true → IsDistinct nat_eq xs
distinct_from xs t =
    IsDistinct-from_count nat_eq_equiv xs (eqb-true (length (distinct xs)) (length xs) t)

module _ (m : MarketRows) (is : IsMarket m) where
  -- the parts of what an order is
  order_tests : (p : ℕ) → p < length m.orders
      → (is_distinct (market_order m p) ≡ true) × (list_all (lists_it m p) (market_order m p) ≡ true) ×
      (list_all (λ x. is_among x (market_order m p)) (listers m p) ≡ true)
  order_tests p lt =
      let first = and_parts (is_distinct (market_order m p) && list_all (lists_it m p) (market_order m p))
      (list_all (λ x. is_among x (market_order m p)) (listers m p)) (is.orders p lt) in
      let second = and_parts (is_distinct (market_order m p))
      (list_all (lists_it m p) (market_order m p)) first.0 in
      (second.0, second.1, first.1)

  pub order_distinct : (p : ℕ) → p < length m.orders → IsDistinct nat_eq (market_order m p)
  order_distinct p lt = distinct_from (market_order m p) (order_tests p lt).0

  -- a list is of a candidate of the market
  pub is_candidate : (p x : ℕ) → lists_it m p x ≡ true → x < length m.lists
  is_candidate p x t =
      elim (cases_lt x (length m.lists)) [
        | inl lt ↦ lt
        | inr past ↦ absurd (false≢true (sym (ap (is_among p) (get_or_past m.lists x [] past)) ∙ t))
      ]

  -- and names programmes of the market
  pub is_programme : (p x : ℕ) → lists_it m p x ≡ true → p < length m.orders
  is_programme p x t =
      let both = and_parts (is_distinct (list_of m x))
      (list_all (λ q. nat_lt q (length m.orders)) (list_of m x))
      (is.lists x (is_candidate p x t)) in
      ltb-true p (length m.orders)
      (one_of_all (λ q. nat_lt q (length m.orders)) p (list_of m x) both.1 t)

  -- whoever lists a programme is in its order
  pub in_order : (p x : ℕ) → lists_it m p x ≡ true → is_among x (market_order m p) ≡ true
  in_order p x t =
      let within : is_among x (range_with_len 0 (length m.lists))
      ≡ true = range_has x 0 (length m.lists) (omega arith)
      (omega (arith, is_candidate p x t)) in
      let lister : is_among x (listers m p)
      ≡ true = filter_among (lists_it m p) x (range_with_len 0 (length m.lists))
      ∙ rw (within, t) refl in
      one_of_all (λ y. is_among y (market_order m p)) x (listers m p)
      (order_tests p (is_programme p x t)).2 lister

  -- and nobody else is
  pub order_lists : (p x : ℕ) → p < length m.orders → is_among x (market_order m p) ≡ true
      → lists_it m p x ≡ true
  order_lists p x lt t = one_of_all (lists_it m p) x (market_order m p) (order_tests p lt).1 t

-- a position is one more than a place
pub position_is : (m : MarketRows) (p x : ℕ)
    → market_position m p x ≡ position_or_len (nat_eq x) (market_order m p) + 1
position_is m p x = ap (λ n. n + 1) (length_before (nat_eq x) (market_order m p))

-- the candidate at a position stands there
pub position_at : (m : MarketRows) (p r : ℕ) → IsDistinct nat_eq (market_order m p) → 1 ≤ r
    → r ≤ length (market_order m p)
    → market_position m p (candidate_at m p r) ≡ r
position_at m p r apart one le =
    omega (
      arith,
      position_is m p (candidate_at m p r),
      only_place (market_order m p) (candidate_at m p r) (r - 1) apart (omega (arith, one, le)) refl,
    )

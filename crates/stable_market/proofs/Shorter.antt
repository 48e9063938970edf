-- A market in which one candidate lists some of their programmes alone.
use Rattle.std.proofs.Common.{ℕ, ◌+◌, ◌<◌, ◌≡◌, ◌≢◌, Bool, true, false, not, ◌&&◌, ◌||◌, List, [], ◌∷◌, map, length}
use Rattle.std.proofs.Common.{refl, sym, ◌∙◌, ap, subst, arith, nat_eq, nat_lt, filter, set, inl, inr}
use Rattle.std.specs.List.{list_all, position_or_len, range_with_len, IsDistinct}
use Rattle.std.proofs.lemmas.Bool.{cases_Bool, cases_eq, cases_lt, and_parts, and_from, eq-eqb, ne_eqb, lt-ltb, le-ltb}
use Rattle.std.proofs.lemmas.Bool.{false≢true}
use Rattle.std.proofs.lemmas.List.{length-set, get_or-set_same, get_or-set_other}
use Rattle.std.proofs.lemmas.List.FromFn.{length-map-range_with_len, get_or-map-range_with_len}
use Rattle.admit_core.specs.Lists.{is_among}
use Rattle.admit_core.proofs.Counting.{distinct_kept}
use Rattle.admit_core.proofs.Plain.{or_true, or_false, and_true}
use Rattle.linked_demand.proofs.HousedRows.{filter_among}
use Rattle.markets.specs.Markets.{MarketRows, IsMarket, list_of, market_order, lists_it, listers, is_distinct}
use Rattle.markets.specs.Markets.{is_list_below, is_order, market_position}
use Rattle.stable_market.specs.Truth.{DifferAtMostIn}
use Rattle.markets.proofs.Firsts.{all_of}
use Rattle.markets.proofs.Positions.{order_distinct, order_lists, in_order, is_programme, position_is}
use Rattle.markets.proofs.BelowCount.{is_distinct_from, list_distinct, list_below}

-- two who are kept stand as they stood, the one before the other or not
pos_here : (y w : ℕ) (xs : List ℕ) → nat_eq y w ≡ true → position_or_len (nat_eq y) (w ∷ xs) ≡ 0
pos_here y w xs here = rw here refl

pos_next : (y w : ℕ) (xs : List ℕ) → nat_eq y w ≡ false
    → position_or_len (nat_eq y) (w ∷ xs) ≡ 1 + position_or_len (nat_eq y) xs
pos_next y w xs other = rw other refl

lt_next : (a b : ℕ) → nat_lt (1 + a) (1 + b) ≡ nat_lt a b
lt_next a b = elim (cases_lt a b) [
  | inl lt ↦ lt-ltb (1 + a) (1 + b) (omega (arith, lt)) ∙ sym (lt-ltb a b lt)
  | inr le ↦ le-ltb (1 + a) (1 + b) (omega (arith, le)) ∙ sym (le-ltb a b le)
]

abbrev place : ℕ → List ℕ → ℕ
place y xs = position_or_len (nat_eq y) xs

step_on : (y z w : ℕ) (xs : List ℕ) → nat_eq y w ≡ false → nat_eq z w ≡ false
    → nat_lt (place y (w ∷ xs)) (place z (w ∷ xs)) ≡ nat_lt (place y xs) (place z xs)
step_on y z w xs y_other z_other =
    ap (λ n. nat_lt n (place z (w ∷ xs))) (pos_next y w xs y_other)
    ∙ ap (nat_lt (1 + place y xs)) (pos_next z w xs z_other)
    ∙ lt_next (place y xs) (place z xs)

stop_first : (y z w : ℕ) (xs : List ℕ) → nat_eq y w ≡ true
    → nat_lt (place y (w ∷ xs)) (place z (w ∷ xs)) ≡ not (nat_eq z w)
stop_first y z w xs y_here =
    ap (λ n. nat_lt n (place z (w ∷ xs))) (pos_here y w xs y_here)
    ∙ elim (cases_Bool (nat_eq z w)) [
      | inl here ↦ ap (nat_lt 0) (pos_here z w xs here) ∙ ap not (sym here)
      | inr other ↦ ap (nat_lt 0) (pos_next z w xs other) ∙ lt-ltb 0 (1 + place z xs) (omega arith) ∙ ap not (sym other)
    ]

stop_second : (y z w : ℕ) (xs : List ℕ) → nat_eq y w ≡ false → nat_eq z w ≡ true
    → nat_lt (place y (w ∷ xs)) (place z (w ∷ xs)) ≡ false
stop_second y z w xs y_other z_here =
    ap (nat_lt (place y (w ∷ xs))) (pos_here z w xs z_here) ∙ le-ltb (place y (w ∷ xs)) 0 (omega arith)

still_before : (t : ℕ → Bool) (y z : ℕ) (xs : List ℕ) → t y ≡ true → t z ≡ true
    → nat_lt (place y xs) (place z xs) ≡ nat_lt (place y (filter t xs)) (place z (filter t xs))
still_before t y z [] y_kept z_kept = refl
still_before t y z (w ∷ xs) y_kept z_kept =
    elim (cases_Bool (t w)) [
      | inl kept ↦
          let P : List ℕ → Type 0 = λ ws. nat_lt (place y (w ∷ xs)) (place z (w ∷ xs))
          ≡ nat_lt (place y ws) (place z ws) in
          let same : filter t (w ∷ xs) ≡ w ∷ filter t xs = rw kept refl in
          subst P (sym same) (elim (cases_Bool (nat_eq y w)) [
            | inl here ↦ stop_first y z w xs here ∙ sym (stop_first y z w (filter t xs) here)
            | inr y_other ↦
                elim (cases_Bool (nat_eq z w)) [
                  | inl here ↦ stop_second y z w xs y_other here ∙ sym (stop_second y z w (filter t xs) y_other here)
                  | inr z_other ↦
                      step_on y z w xs y_other z_other ∙ still_before t y z xs y_kept z_kept
                      ∙ sym (step_on y z w (filter t xs) y_other z_other)
                ]
          ])
      | inr gone ↦
          let y_other : nat_eq y w ≡ false = apart y w (λ e. false≢true (sym gone ∙ ap t (sym e) ∙ y_kept)) in
          let z_other : nat_eq z w ≡ false = apart z w (λ e. false≢true (sym gone ∙ ap t (sym e) ∙ z_kept)) in
          let same : filter t (w ∷ xs) ≡ filter t xs = rw gone refl in
          let P : List ℕ → Type 0 = λ ws. nat_lt (place y (w ∷ xs)) (place z (w ∷ xs))
          ≡ nat_lt (place y ws) (place z ws) in
          subst P (sym same) (step_on y z w xs y_other z_other ∙ still_before t y z xs y_kept z_kept)
    ]
  where
    apart : (v w : ℕ) → v ≢ w → nat_eq v w ≡ false
    apart v w other = ne_eqb v w other

-- whom a programme keeps: the candidate where they still list it, and all others
abbrev pub stays : (ℕ → Bool) → ℕ → ℕ → ℕ → Bool
stays keep x p y = keep p || not (nat_eq y x)

abbrev pub shortened : MarketRows → ℕ → (ℕ → Bool) → MarketRows
shortened m x keep =
    record {
      lists = set m.lists x (filter keep (list_of m x));
      orders = map (λ p. filter (stays keep x p) (market_order m p)) (range_with_len 0 (length m.orders));
      seats = m.seats;
    }

module _ (m : MarketRows) (is : IsMarket m) (x : ℕ) (x_lt : x < length m.lists) (keep : ℕ → Bool) where
  abbrev short : MarketRows
  short = shortened m x keep

  many_lists : length short.lists ≡ length m.lists
  many_lists = length-set m.lists x (filter keep (list_of m x))

  many_orders : length short.orders ≡ length m.orders
  many_orders = length-map-range_with_len (λ p. filter (stays keep x p) (market_order m p)) 0 (length m.orders)

  pub own_list : list_of short x ≡ filter keep (list_of m x)
  own_list = get_or-set_same m.lists x (filter keep (list_of m x)) [] x_lt

  pub other_list : (y : ℕ) → y ≢ x → list_of short y ≡ list_of m y
  other_list y other = get_or-set_other m.lists x y (filter keep (list_of m x)) [] other

  order_is : (p : ℕ) → p < length m.orders → market_order short p ≡ filter (stays keep x p) (market_order m p)
  order_is p lt = get_or-map-range_with_len (λ q. filter (stays keep x q) (market_order m q)) 0 (length m.orders) p p
      [] lt (omega arith)

  lists_there : (p y : ℕ) → lists_it short p y ≡ (lists_it m p y && stays keep x p y)
  lists_there p y = elim (cases_eq y x) [
    | inl here ↦
        let own : lists_it short p x ≡ (lists_it m p x && keep p) =
        ap (is_among p) own_list ∙ filter_among keep p (list_of m x) in
        let kept : stays keep x p y ≡ keep p = ap (λ b. keep p || not b) (eq-eqb y x here) ∙ or_false (keep p) in
        ap (lists_it short p) here ∙ own ∙ ap (λ z. lists_it m p z && keep p) (sym here)
        ∙ ap (λ b. lists_it m p y && b) (sym kept)
    | inr other ↦
        let kept : stays keep x p y ≡ true = ap (λ b. keep p || not b) (ne_eqb y x other) ∙ or_true (keep p) in
        ap (is_among p) (other_list y other) ∙ sym (and_true (lists_it m p y))
        ∙ ap (λ b. lists_it m p y && b) (sym kept)
  ]

  pub listed_before : (p y : ℕ) → lists_it short p y ≡ true → (lists_it m p y ≡ true) × (stays keep x p y ≡ true)
  listed_before p y t = and_parts (lists_it m p y) (stays keep x p y) (sym (lists_there p y) ∙ t)

  in_short : (p y : ℕ) → p < length m.orders
      → is_among y (market_order short p) ≡ (is_among y (market_order m p) && stays keep x p y)
  in_short p y lt = ap (is_among y) (order_is p lt) ∙ filter_among (stays keep x p) y (market_order m p)

  own_is_list : is_list_below (length m.orders) (filter keep (list_of m x)) ≡ true
  own_is_list =
      let list = list_of m x in
      and_from (is_distinct (filter keep list)) (list_all (λ p. nat_lt p (length m.orders)) (filter keep list))
      (is_distinct_from (filter keep list)
      (distinct_kept keep list (list_distinct (length m.orders) list (is.lists x x_lt))))
      (all_of (λ p. nat_lt p (length m.orders)) (filter keep list) (λ q among.
      let both = and_parts (is_among q list) (keep q) (sym (filter_among keep q list) ∙ among) in
      lt-ltb q (length m.orders) (list_below (length m.orders) list q (is.lists x x_lt) both.0)))

  are_lists : (y : ℕ) → y < length short.lists → is_list_below (length short.orders) (list_of short y) ≡ true
  are_lists y lt =
      ap (λ n. is_list_below n (list_of short y)) many_orders
      ∙ elim (cases_eq y x) [
        | inl here ↦ ap (λ z. is_list_below (length m.orders) (list_of short z)) here
            ∙ ap (is_list_below (length m.orders)) own_list
            ∙ own_is_list
        | inr other ↦ ap (is_list_below (length m.orders)) (other_list y other)
            ∙ is.lists y (omega (arith, lt, many_lists))
      ]

  are_orders : (p : ℕ) → p < length short.orders → is_order short p ≡ true
  are_orders p short_lt =
      let lt : p < length m.orders = omega (arith, short_lt, many_orders) in
      let order = market_order short p in
      let apart : IsDistinct nat_eq order =
      (let P : List ℕ → Type 0 = λ ys. IsDistinct nat_eq ys in
      subst P (sym (order_is p lt)) (distinct_kept (stays keep x p) (market_order m p) (order_distinct m is p lt))) in
      let all_list : list_all (lists_it short p) order ≡ true =
      all_of (lists_it short p) order (λ y among.
      let both = and_parts (is_among y (market_order m p)) (stays keep x p y) (sym (in_short p y lt) ∙ among) in
      lists_there p y ∙ and_from (lists_it m p y) (stays keep x p y) (order_lists m is p y lt both.0) both.1) in
      let all_in : list_all (λ y. is_among y order) (listers short p) ≡ true =
      all_of (λ y. is_among y order) (listers short p) (λ y among.
      let lister = and_parts (is_among y (range_with_len 0 (length short.lists))) (lists_it short p y)
      (sym (filter_among (lists_it short p) y (range_with_len 0 (length short.lists))) ∙ among) in
      let both = listed_before p y lister.1 in
      in_short p y lt ∙ and_from (is_among y (market_order m p)) (stays keep x p y)
      (in_order m is p y both.0) both.1) in
      and_from (is_distinct order && list_all (lists_it short p) order)
      (list_all (λ y. is_among y order) (listers short p))
      (and_from (is_distinct order) (list_all (lists_it short p) order) (is_distinct_from order apart) all_list) all_in

  pub is_shorter : IsMarket short
  is_shorter = record { one_seat_each = is.one_seat_each ∙ sym many_orders; lists = are_lists; orders = are_orders }

  pub shorter_is_alike : DifferAtMostIn x m short
  shorter_is_alike =
      record {
        candidates = sym many_lists;
        programmes = sym many_orders;
        same_seats = refl;
        same_lists = λ y other. sym (other_list y other);
        same_ranks = λ p y z y_was z_was y_is z_is.
            let lt = is_programme m is p y y_was in
            let order = market_order m p in
            let kept = filter (stays keep x p) order in
            let y_pos : market_position short p y ≡ 1 + place y kept =
            omega (arith, position_is short p y, ap (place y) (order_is p lt)) in
            let z_pos : market_position short p z ≡ 1 + place z kept =
            omega (arith, position_is short p z, ap (place z) (order_is p lt)) in
            let y_old : market_position m p y ≡ 1 + place y order = omega (arith, position_is m p y) in
            let z_old : market_position m p z ≡ 1 + place z order = omega (arith, position_is m p z) in
            ap (λ n. nat_lt n (market_position m p z)) y_old ∙ ap (nat_lt (1 + place y order)) z_old
            ∙ lt_next (place y order) (place z order)
            ∙ still_before (stays keep x p) y z order (listed_before p y y_is).1 (listed_before p z z_is).1
            ∙ sym (ap (λ n. nat_lt n (market_position short p z)) y_pos ∙ ap (nat_lt (1 + place y kept)) z_pos
            ∙ lt_next (place y kept) (place z kept));
      }

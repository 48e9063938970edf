-- No stable matching is better for anyone than that of the greatest bars: each stable matching has bars that fit.
use Rattle.std.proofs.Common.{ℕ, ◌≤◌, ◌<◌, ◌≡◌, Bool, true, false, not, List, map, length, get_or, refl, sym, ◌∙◌, ap}
use Rattle.std.proofs.Common.{arith, nat_eq, nat_lt, inl, inr}
use Rattle.std.specs.Prelude.{Option, Some, slice_index}
use Rattle.std.specs.List.{list_any, position_or_len, range_with_len}
use Rattle.std.proofs.lemmas.Bool.{cases_lt, or_right, lt-ltb, lt-leb, le-leb, eq-eqb, false≢true, false_from_ne_true}
use Rattle.std.proofs.lemmas.List.{length-map, get_or_past}
use Rattle.std.proofs.lemmas.List.FromFn.{length-map-range_with_len, get_or-map-range_with_len}
use Rattle.std.proofs.lemmas.List.Sums.{fails_before_first, passes_at_first, prefix_len-le-length}
use Rattle.admit_core.specs.Lists.{is_among}
use Rattle.admit_core.specs.Falls.{IsAtMost, Fits, IsGreatest}
use Rattle.linked_demand.proofs.HousedRows.{filter_among}
use Rattle.markets.specs.Markets.{MarketRows, IsMarket, list_of, market_order, lists_it, market_position}
use Rattle.markets.specs.Matchings.{place_of, is_at, holders, prefers, would_take, IsStable, IsBestForAll}
use Rattle.markets.specs.Bars.{is_within, best_within, matched_under, market_system}
use Rattle.markets.proofs.Firsts.{among_before, any_of, range_has, found_at}
use Rattle.markets.proofs.Positions.{is_candidate, is_programme, in_order, order_distinct, first_place, at_first}
use Rattle.markets.proofs.Positions.{only_place, position_is}
use Rattle.markets.proofs.Held.{holders_are_demanded}
use Rattle.markets.proofs.Stable.{ceiling_is, beyond_reach}

module _ (m : MarketRows) (is : IsMarket m) (places : List (Option ℕ)) (stable : IsStable m places) where
  -- the bar of a programme: below the first of its order who prefers it to their place
  bar_left : ℕ → ℕ
  bar_left p = position_or_len (λ x. prefers m places x p) (market_order m p)

  bars_left : List ℕ
  bars_left = map bar_left (range_with_len 0 (length m.orders))

  bar_is : (p : ℕ) → p < length m.orders → slice_index bars_left p ≡ bar_left p
  unfolding bars_left
  bar_is p lt = get_or-map-range_with_len bar_left 0 (length m.orders) p p 0 lt (omega arith)

  bars_each : length bars_left ≡ length m.orders
  unfolding bars_left
  bars_each = length-map-range_with_len bar_left 0 (length m.orders)

  -- what a candidate prefers to their place is beyond these bars
  left_out : (x p : ℕ) → prefers m places x p ≡ true → slice_index bars_left p < market_position m p x
  unfolding bar_left
  left_out x p t =
      let on_list : lists_it m p x ≡ true = (among_before (λ q. is_at q (place_of places x)) p (list_of m x) t).0 in
      let order : List ℕ = market_order m p in
      let test : ℕ → Bool = λ y. prefers m places y p in
      let i : ℕ = position_or_len (nat_eq x) order in
      let at : get_or order i 0 ≡ x = at_first x order (in_order m is p x on_list) in
      let first : position_or_len test order ≤ i =
      elim (cases_lt i (position_or_len test order)) [
        | inl before ↦ absurd (false≢true (sym (fails_before_first test order i 0 before) ∙ ap test at ∙ t))
        | inr le ↦ le
      ] in
      omega (arith, first, bar_is p (is_programme m is p x on_list), position_is m p x)

  -- and their place is within reach
  kept_within : (x p : ℕ) → place_of places x ≡ Some p → market_position m p x ≤ slice_index bars_left p
  unfolding bar_left
  kept_within x p at =
      let on_list : lists_it m p x ≡ true = stable.matching.listed x p at in
      let order : List ℕ = market_order m p in
      let p_lt : p < length m.orders = is_programme m is p x on_list in
      let test : ℕ → Bool = λ y. prefers m places y p in
      let i : ℕ = position_or_len (nat_eq x) order in
      let i_lt : i < length order = first_place x order (in_order m is p x on_list) in
      let at_i : get_or order i 0 ≡ x = at_first x order (in_order m is p x on_list) in
      let holds : is_at p (place_of places x) ≡ true = ap (is_at p) at ∙ eq-eqb p p refl in
      let content : test x ≡ false =
      false_from_ne_true (test x)
      (λ t. false≢true (sym (among_before (λ q. is_at q (place_of places x)) p (list_of m x) t).1 ∙ holds)) in
      let j : ℕ = position_or_len test order in
      let within : i < j =
      elim (cases_lt i j) [
        | inl lt ↦ lt
        | inr le ↦
            let j_lt : j < length order = omega (arith, le, i_lt) in
            let y : ℕ = get_or order j 0 in
            let wants : test y ≡ true = passes_at_first test order 0 j_lt in
            let y_at : position_or_len (nat_eq y) order ≡ j = only_place order y j (order_distinct m is p p_lt)
            j_lt refl in
            let apart : j < i =
            elim (cases_lt j i) [
              | inl lt ↦ lt
              | inr ge ↦
                  let same : j ≡ i = omega (arith, le, ge) in
                  let here : y ≡ x = ap (λ k. get_or order k 0) same ∙ at_i in
                  absurd (false≢true (sym content ∙ ap test (sym here) ∙ wants))
            ] in
            let earlier : nat_lt (market_position m p y) (market_position m p x) ≡ true =
            lt-ltb (market_position m p y) (market_position m p x)
            (omega (arith, position_is m p y, position_is m p x, y_at, apart)) in
            let held : is_among x (holders places p) ≡ true =
            (let range : List ℕ = range_with_len 0 (length places) in
            let in_range : is_among x range ≡ true =
            range_has x 0 (length places) (omega arith)
            (omega (arith, is_candidate m is p x on_list, stable.matching.one_place_each)) in
            filter_among (λ z. is_at p (place_of places z)) x range ∙ rw (in_range, holds) refl) in
            let later : list_any (λ z. nat_lt (market_position m p y) (market_position m p z)) (holders places p)
            ≡ true =
            any_of (λ z. nat_lt (market_position m p y) (market_position m p z)) x (holders places p) held earlier in
            let taken : would_take m places p y ≡ true =
            or_right (nat_lt (length (holders places p)) (slice_index m.seats p))
            (list_any (λ z. nat_lt (market_position m p y) (market_position m p z)) (holders places p)) later in
            absurd (false≢true (sym (stable.no_block y p wants) ∙ taken))
      ] in
      omega (arith, within, bar_is p p_lt, position_is m p x)

  -- so each has the best programme within reach of these bars
  same_places : (x : ℕ) → place_of places x ≡ best_within m bars_left x
  same_places x =
      sym (found_at (is_within m bars_left x) (place_of places x) (list_of m x)
      (λ q t. lt-leb (market_position m q x) (slice_index bars_left q) (left_out x q t))
      (λ p at. (
        stable.matching.listed x p at,
        le-leb (market_position m p x) (slice_index bars_left p)
            (kept_within x p at),
      )))

  -- they are no higher than the ceilings
  under : IsAtMost bars_left (map length m.orders)
  unfolding bar_left
  under =
      record {
        as_many = bars_each ∙ sym (length-map m.orders length);
        each = λ p.
            elim (cases_lt p (length m.orders)) [
              | inl lt ↦
                  omega (
                    arith,
                    bar_is p lt,
                    ceiling_is m p,
                    prefix_len-le-length (λ x. not (prefers m places x p))
                        (market_order m p),
                  )
              | inr past ↦ omega (arith, get_or_past bars_left p 0 (omega (arith, past, bars_each)))
            ];
      }

  -- and they fit
  stable_bars_fit : Fits (market_system m) bars_left
  stable_bars_fit =
      record {
        under_ceilings = under;
        room = λ p lt.
            let p_lt : p < length m.orders = omega (arith, lt, length-map m.orders length) in
            omega (
              arith,
              holders_are_demanded m is bars_left places stable.matching.one_place_each same_places p p_lt,
              stable.matching.seated p (omega (arith, p_lt, is.one_seat_each)),
            );
      }

  pub not_better : (bars : List ℕ) → IsGreatest (market_system m) bars → (x p : ℕ) → place_of places x ≡ Some p
      → prefers m (matched_under m bars) x p ≡ false
  not_better bars greatest x p at =
      false_from_ne_true (prefers m (matched_under m bars) x p) (λ t.
      omega (
        arith,
        beyond_reach m bars x p t,
        kept_within x p at,
        (greatest.greatest bars_left stable_bars_fit).each p,
      ))

pub greatest_is_best : (m : MarketRows) (bars : List ℕ) → IsMarket m → IsGreatest (market_system m) bars
    → IsBestForAll m (matched_under m bars)
greatest_is_best m bars is greatest = λ others stable x p at. not_better m is others stable bars greatest x p at

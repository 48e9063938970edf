-- The greatest bars of a market give a stable matching.
use Rattle.std.proofs.Common.{ℕ, ◌≤◌, ◌<◌, ◌≡◌, Bool, true, List, [], map, length, sym, ◌∙◌, subst, arith, nat_lt}
use Rattle.std.specs.Prelude.{Option, slice_index}
use Rattle.std.specs.List.{list_any, before_first, range_with_len}
use Rattle.std.proofs.lemmas.Bool.{and_parts, or_from, le-ltb, leb-false}
use Rattle.std.proofs.lemmas.List.{length-map}
use Rattle.std.proofs.Math.ListN.{get_or-map}
use Rattle.std.proofs.lemmas.List.FromFn.{length-map-range_with_len}
use Rattle.admit_core.specs.Lists.{is_among}
use Rattle.admit_core.specs.Falls.{IsGreatest}
use Rattle.admit_core.proofs.FullBeds.{full_below}
use Rattle.linked_demand.proofs.HousedRows.{filter_among}
use Rattle.markets.specs.Markets.{MarketRows, IsMarket, list_of, market_order, lists_it, market_position}
use Rattle.markets.specs.Matchings.{place_of, is_at, holders, prefers, IsStable}
use Rattle.markets.specs.Bars.{is_within, best_within, demanded, matched_under, market_system}
use Rattle.markets.proofs.Firsts.{among_before, fails_before, none_of, at_place}
use Rattle.markets.proofs.Positions.{is_programme, in_order, first_place, position_is}
use Rattle.markets.proofs.Lawful.{best_is_listed, best_is_within, market_is_lawful}
use Rattle.markets.proofs.Held.{place_under, holders_are_demanded}

-- the ceiling of a programme
pub ceiling_is : (m : MarketRows) (p : ℕ) → slice_index (map length m.orders) p ≡ length (market_order m p)
ceiling_is m p = get_or-map length m.orders p []

-- a programme that a candidate prefers to their place under bars is beyond reach
pub beyond_reach : (m : MarketRows) (bars : List ℕ) (x p : ℕ) → prefers m (matched_under m bars) x p ≡ true
    → slice_index bars p < market_position m p x
beyond_reach m bars x p t =
    let P : Option ℕ → Type 0 = λ o. is_among p (before_first (λ q. is_at q o) (list_of m x)) ≡ true in
    leb-false (market_position m p x) (slice_index bars p)
    (fails_before (is_within m bars x) p (list_of m x) (subst P (place_under m bars x) t))

-- one who holds a place there is within reach of it
holder_within : (m : MarketRows) (bars : List ℕ) (p y : ℕ) → is_among y (holders (matched_under m bars) p) ≡ true
    → market_position m p y ≤ slice_index bars p
holder_within m bars p y t =
    let places : List (Option ℕ) = matched_under m bars in
    let holds : ℕ → Bool = λ x. is_at p (place_of places x) in
    let range : List ℕ = range_with_len 0 (length places) in
    let both = and_parts (is_among y range) (holds y) (sym (filter_among holds y range) ∙ t) in
    best_is_within m bars y p (sym (place_under m bars y) ∙ at_place p (place_of places y) both.1)

-- the position of one who lists a programme is at most its ceiling
pub position_le : (m : MarketRows) → IsMarket m → (p x : ℕ) → lists_it m p x ≡ true
    → market_position m p x ≤ length (market_order m p)
position_le m is p x t = omega (arith, position_is m p x, first_place x (market_order m p) (in_order m is p x t))

pub greatest_is_stable : (m : MarketRows) (bars : List ℕ) → IsMarket m → IsGreatest (market_system m) bars
    → IsStable m (matched_under m bars)
greatest_is_stable m bars is greatest =
    let places : List (Option ℕ) = matched_under m bars in
    let each : length places ≡ length m.lists = length-map-range_with_len (best_within m bars) 0 (length m.lists) in
    let held : (p : ℕ) → p < length m.orders → length (holders places p) ≡ length (demanded m bars p) =
    holders_are_demanded m is bars places each (place_under m bars) in
    record {
      matching = record {
        one_place_each = each;
        listed = λ x p at. best_is_listed m bars x p (sym (place_under m bars x) ∙ at);
        seated = λ p lt.
            let p_lt : p < length m.orders = omega (arith, lt, is.one_seat_each) in
            omega (arith, held p p_lt, greatest.fits.room p (omega (arith, p_lt, length-map m.orders length)));
      };
      no_block = λ x p t.
          let out = beyond_reach m bars x p t in
          let on_list : lists_it m p x ≡ true = (among_before (λ q. is_at q (place_of places x)) p (list_of m x) t).0 in
          let p_lt = is_programme m is p x on_list in
          let low : slice_index bars p < slice_index (map length m.orders) p = omega
          (arith, out, position_le m is p x on_list, ceiling_is m p) in
          let full : length (demanded m bars p) ≡ slice_index m.seats p =
          full_below (market_system m) (market_is_lawful m is) bars
          greatest p low in
          or_from (nat_lt (length (holders places p)) (slice_index m.seats p))
          (list_any (λ y. nat_lt (market_position m p x) (market_position m p y)) (holders places p))
          (le-ltb (length (holders places p)) (slice_index m.seats p) (omega (arith, held p p_lt, full)))
          (none_of (λ y. nat_lt (market_position m p x) (market_position m p y)) (holders places p)
          (λ y holds. le-ltb (market_position m p x) (market_position m p y)
          (omega (arith, out, holder_within m bars p y holds))));
    }

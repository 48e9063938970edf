-- A market is a lawful system of falling bars.
use Rattle.std.proofs.Common.{ℕ, ◌≤◌, ◌<◌, ◌≡◌, Bool, true, false, List, length, refl, sym, ◌∙◌, ap, arith, nat_eq}
use Rattle.std.specs.Prelude.{Some, slice_index}
use Rattle.std.specs.List.{before_first, range_with_len}
use Rattle.std.proofs.lemmas.Bool.{and_parts, leb-true, le-leb, lt-leb, leb-false, eq-eqb}
use Rattle.std.proofs.lemmas.List.{length-map}
use Rattle.std.proofs.lemmas.List.Kept.{IsStrictlyIncreasing-filter}
use Rattle.admit_core.specs.Lists.{is_among}
use Rattle.admit_core.specs.Falls.{IsAtMost, IsLawful}
use Rattle.admit_core.proofs.NextCalls.{find_passes, find_any}
use Rattle.day_state.proofs.Ascending.{range_rises}
use Rattle.linked_demand.proofs.HousedRows.{filter_among}
use Rattle.markets.specs.Markets.{MarketRows, IsMarket, list_of, market_order, lists_it, market_position, candidate_at}
use Rattle.markets.specs.Matchings.{is_at}
use Rattle.markets.specs.Bars.{is_within, best_within, demanded, market_system}
use Rattle.markets.specs.KeptPositions.{KeepsPositions, lawful_by}
use Rattle.markets.proofs.Firsts.{among_range, range_has, fails_before, found_at, at_place}
use Rattle.markets.proofs.Positions.{order_distinct, position_at}

-- the best programme within reach is on the list, and within reach
pub best_is_listed : (m : MarketRows) (bars : List ℕ) (x p : ℕ) → best_within m bars x ≡ Some p
    → lists_it m p x ≡ true
best_is_listed m bars x p e =
    find_any (is_within m bars x) (nat_eq p) (list_of m x) p e (eq-eqb p p refl)

pub best_is_within : (m : MarketRows) (bars : List ℕ) (x p : ℕ) → best_within m bars x ≡ Some p
    → market_position m p x ≤ slice_index bars p
best_is_within m bars x p e =
    leb-true (market_position m p x) (slice_index bars p)
    (find_passes (is_within m bars x) (list_of m x) p e)

-- a position is demanded where it is one of the order, and the programme is the best within reach
-- of the one who stands there
pub demanded_parts : (m : MarketRows) (bars : List ℕ) (p r : ℕ)
    → is_among r (demanded m bars p) ≡ true
    → (1 ≤ r) × (r ≤ length (market_order m p)) × (best_within m bars (candidate_at m p r) ≡ Some p)
demanded_parts m bars p r t =
    let test : ℕ → Bool = λ q. is_at p (best_within m bars (candidate_at m p q)) in
    let range : List ℕ = range_with_len 1 (length (market_order m p)) in
    let both = and_parts (is_among r range) (test r) (sym (filter_among test r range) ∙ t) in
    let within = among_range r 1 (length (market_order m p)) both.0 in
    (within.0, omega (arith, within.1), at_place p (best_within m bars (candidate_at m p r)) both.1)

pub demanded_from : (m : MarketRows) (bars : List ℕ) (p r : ℕ) → 1 ≤ r → r ≤ length (market_order m p)
    → best_within m bars (candidate_at m p r) ≡ Some p → is_among r (demanded m bars p) ≡ true
demanded_from m bars p r one le best =
    let test : ℕ → Bool = λ q. is_at p (best_within m bars (candidate_at m p q)) in
    let range : List ℕ = range_with_len 1 (length (market_order m p)) in
    let within : is_among r range
    ≡ true = range_has r 1 (length (market_order m p)) one (omega (arith, le)) in
    let passes : test r ≡ true = ap (is_at p) best ∙ eq-eqb p p refl in
    filter_among test r range ∙ rw (within, passes) refl

-- as bars fall, the best within reach stays the best while it is within reach
pub best_stays : (m : MarketRows) (lower upper : List ℕ) (x p : ℕ) → IsAtMost lower upper
    → best_within m upper x ≡ Some p
    → market_position m p x ≤ slice_index lower p → best_within m lower x ≡ Some p
best_stays m lower upper x p below best le =
    let before : (q : ℕ) → is_among q (before_first (λ o. is_at o (Some p)) (list_of m x)) ≡ true
    → is_within m upper x q ≡ false =
    λ q t. fails_before (is_within m upper x) q (list_of m x) (rw best t) in
    found_at (is_within m lower x) (Some p) (list_of m x)
    (λ q t.
    let out : slice_index upper q < market_position m q x = leb-false (market_position m q x)
    (slice_index upper q) (before q t) in
    lt-leb (market_position m q x) (slice_index lower q) (omega (arith, out, below.each q)))
    (λ o is.
    let same : p ≡ o = (let e = is in cc) in
    rw (← same) (
      best_is_listed m upper x p best,
      le-leb (market_position m p x)
          (slice_index lower p) le,
    ))

pub positions_kept : (m : MarketRows) → IsMarket m → KeepsPositions m
positions_kept m is = record {
  one_seat_each = is.one_seat_each ∙ sym (length-map m.orders length);
  rising = λ bars p. IsStrictlyIncreasing-filter (λ r. is_at p (best_within m bars (candidate_at m p r)))
      (range_with_len 1 (length (market_order m p))) (range_rises 1 (length (market_order m p)));
  from_one = λ bars p r among. (demanded_parts m bars p r among).0;
  to_bar = λ bars p r under lt among.
      let parts = demanded_parts m bars p r among in
      let p_lt : p < length m.orders = omega (arith, lt, under.as_many, length-map m.orders length) in
      omega (
        arith,
        best_is_within m bars (candidate_at m p r) p parts.2,
        position_at m p r (order_distinct m is p p_lt) parts.0 parts.1,
      );
  stay = λ lower upper p r below under lt among le.
      let parts = demanded_parts m upper p r among in
      let p_lt : p < length m.orders = omega (arith, lt, below.as_many, under.as_many, length-map m.orders length) in
      let at = position_at m p r (order_distinct m is p p_lt) parts.0 parts.1 in
      demanded_from m lower p r parts.0 parts.1
      (best_stays m lower upper (candidate_at m p r) p below parts.2 (omega (arith, le, at)));
}

pub market_is_lawful : (m : MarketRows) → IsMarket m → IsLawful (market_system m)
market_is_lawful m is = lawful_by m (positions_kept m is)

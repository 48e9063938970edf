-- Where candidates stand under bars, and who moves on as a bar falls by one position.
use Rattle.std.proofs.Common.{ℕ, ◌+◌, ◌-◌, ◌≤◌, ◌<◌, ◌≡◌, ◌≢◌, ◌⊎◌, true, false, List, [], ◌∷◌, ◌++◌, length, get_or}
use Rattle.std.proofs.Common.{inl, inr, refl, sym, ◌∙◌, ap, subst, arith, nat_eq, nat_le, Option, Some, None, set}
use Rattle.std.specs.Prelude.{All, slice_get, slice_index}
use Rattle.std.specs.List.{position_or_len}
use Rattle.std.proofs.lemmas.Bool.{cases_eq, cases_lt, eqb-true, eq-eqb, leb-false, le-leb, lt-leb, false≢true}
use Rattle.std.proofs.lemmas.List.{length-set, length-append, get_or-set_same, get_or-set_other, get_or_append_left}
use Rattle.std.proofs.lemmas.List.{get_or-append_right, get_or_default, get_or_past}
use Rattle.std.proofs.lemmas.List.FromFn.{fill_by_all, length-map-range_with_len}
use Rattle.std.proofs.lemmas.List.Sums.{passes_at_first}
use Rattle.std.proofs.lemmas.Option.{slice_get-get_or, slice_get_past, slice_get_within, get_or_from_slice_get}
use Rattle.markets.specs.Markets.{MarketRows, IsMarket, list_of, market_order, market_position, candidate_at}
use Rattle.markets.specs.Matchings.{place_of, is_at}
use Rattle.markets.specs.Bars.{is_within, best_within, matched_under}
use Rattle.markets.proofs.Firsts.{at_place}
use Rattle.markets.proofs.Positions.{order_distinct, position_at, position_is}
use Rattle.markets.proofs.Lawful.{best_is_within, positions_kept}
use Rattle.markets.specs.Standing.{AreBeyond, IsStand, AreStands}
use Rattle.markets.specs.Fillings.{Fill}
use Rattle.markets.specs.Rounds.{AreCounts, IsRound}
use Rattle.markets.specs.Seatings.{HasMovedOn, IsLeaving}
use Rattle.markets.proofs.Held.{place_under, past_lists}
use Rattle.markets.proofs.Rounds.{best_found, best_nowhere}

-- one entry more is beyond reach
pub beyond_more : (m : MarketRows) (bars : List ℕ) (x s : ℕ) → AreBeyond m bars x s
    → slice_index bars (slice_index (list_of m x) s) < market_position m (slice_index (list_of m x) s) x
    → AreBeyond m bars x (s + 1)
beyond_more m bars x s beyond out k lt =
    elim (cases_eq k s) [
      | inl here ↦
          ap (λ j. is_within m bars x (slice_index (list_of m x) j)) here
          ∙ lt-leb (market_position m (slice_index (list_of m x) s) x)
          (slice_index bars (slice_index (list_of m x) s)) out
      | inr other ↦ beyond k (omega (arith, lt, other))
    ]

-- entries beyond reach, up to one within reach or to the end
pub stand_from : (m : MarketRows) (bars : List ℕ) (x s : ℕ) → s ≤ length (list_of m x) → AreBeyond m bars x s
    → (s < length (list_of m x) → is_within m bars x (slice_index (list_of m x) s) ≡ true) → IsStand m bars x s
stand_from m bars x s le beyond reached =
    record {
      within = le;
      beyond = beyond;
      best = elim (cases_lt s (length (list_of m x))) [
        | inl lt ↦ slice_get-get_or (list_of m x) s 0 lt
            ∙ best_found m bars x s (list_of m x) refl lt beyond (reached lt)
        | inr past ↦ slice_get_past (list_of m x) s past ∙ best_nowhere m bars x s (list_of m x) refl past beyond
      ];
    }

-- the entry at a stand is within reach
pub reached_at : (m : MarketRows) (bars : List ℕ) (x s : ℕ) → IsStand m bars x s → s < length (list_of m x)
    → is_within m bars x (slice_index (list_of m x) s) ≡ true
reached_at m bars x s stand lt =
    let p : ℕ = slice_index (list_of m x) s in
    le-leb (market_position m p x) (slice_index bars p)
    (best_is_within m bars x p (sym stand.best ∙ slice_get-get_or (list_of m x) s 0 lt))

-- the stands of the first k candidates
pub record AreStandsTo (m : MarketRows) (bars : List ℕ) (k : ℕ) (stands : List ℕ) : Type 0 where
  pub one_each : length stands ≡ k
  pub each : (x : ℕ) → x < k → IsStand m bars x (slice_index stands x)

pub stands_none : (m : MarketRows) (bars stands : List ℕ) → stands ≡ [] → AreStandsTo m bars 0 stands
stands_none m bars stands are = record { one_each = ap length are; each = λ x lt. absurd (omega (arith, lt)) }

pub stands_more : (m : MarketRows) (bars : List ℕ) (k s : ℕ) (stands new : List ℕ) → new ≡ stands ++ s ∷ []
    → IsStand m bars k s
    → AreStandsTo m bars k stands → AreStandsTo m bars (k + 1) new
stands_more m bars k s stands new new_is stand are =
    let P : List ℕ → Type 0 = λ xs. AreStandsTo m bars (k + 1) xs in
    subst P (sym new_is) (record {
      one_each = omega (arith, length-append stands (s ∷ []), are.one_each);
      each = λ x lt.
          let Q : ℕ → Type 0 = λ v. IsStand m bars x v in
          elim (cases_eq x k) [
            | inl here ↦
                let now : slice_index (stands ++ s ∷ []) x ≡ s =
                get_or-append_right stands (s ∷ []) (length stands) x 0 refl (omega (arith, here, are.one_each))
                ∙ ap (λ i. get_or (s ∷ []) i 0) (let e : x - length stands ≡ 0 = omega (arith, here, are.one_each) in
                e) in
                let R : ℕ → Type 0 = λ y. IsStand m bars y s in
                subst Q (sym now) (subst R (sym here) stand)
            | inr other ↦
                let before : x < length stands = omega (arith, lt, other, are.one_each) in
                subst Q (sym (get_or_append_left stands (s ∷ []) 0 x before)) (are.each x (omega (arith, lt, other)))
          ];
    })

-- a bar falls by one position
module _ (m : MarketRows) (is : IsMarket m) (bars : List ℕ) (p : ℕ) (p_lt : p < length m.orders)
    (each : length bars ≡ length m.orders)
    (above : 0 < slice_index bars p) (under : slice_index bars p ≤ length (market_order m p)) where
  abbrev bar : ℕ
  bar = slice_index bars p

  abbrev lower : List ℕ
  lower = set bars p (bar - 1)

  abbrev who : ℕ
  who = candidate_at m p bar

  lower_here : slice_index lower p ≡ bar - 1
  lower_here = get_or-set_same bars p (bar - 1) 0 (omega (arith, p_lt, each))

  -- no bar is higher
  lower_le : (q : ℕ) → slice_index lower q ≤ slice_index bars q
  lower_le q = elim (cases_eq q p) [
    | inl here ↦ omega (arith, ap (slice_index lower) here, lower_here, ap (slice_index bars) here)
    | inr other ↦ omega (arith, get_or-set_other bars p q (bar - 1) 0 other)
  ]

  -- who stands at the position of the bar
  at_bar : (x : ℕ) → market_position m p x ≡ bar → x ≡ who
  at_bar x e =
      let order : List ℕ = market_order m p in
      let i : ℕ = position_or_len (nat_eq x) order in
      let i_is : i ≡ bar - 1 = omega (arith, e, position_is m p x) in
      let lt : i < length order = omega (arith, i_is, above, under) in
      eqb-true x (get_or order i 0) (passes_at_first (nat_eq x) order 0 lt) ∙ ap (λ k. get_or order k 0) i_is

  at_who : market_position m p who ≡ bar
  at_who = position_at m p bar (order_distinct m is p p_lt) (omega (arith, above)) under

  -- nothing else changes
  same_within : (x q : ℕ) → (x ≢ who) ⊎ (q ≢ p) → is_within m lower x q ≡ is_within m bars x q
  same_within x q other =
      elim (cases_eq q p) [
        | inl here ↦
            let apart : market_position m q x ≢ bar =
            λ e. elim other [
              | inl x_other ↦ x_other (at_bar x (ap (λ o. market_position m o x) (sym here) ∙ e))
              | inr q_other ↦ q_other here
            ] in
            let now : slice_index lower q ≡ bar - 1 = ap (slice_index lower) here ∙ lower_here in
            let was : slice_index bars q ≡ bar = ap (slice_index bars) here in
            elim (cases_lt bar (market_position m q x)) [
              | inl out ↦
                  lt-leb (market_position m q x) (slice_index lower q) (omega (arith, out, now))
                  ∙ sym (lt-leb (market_position m q x) (slice_index bars q) (omega (arith, out, was)))
              | inr le ↦
                  le-leb (market_position m q x) (slice_index lower q) (omega (arith, le, now, apart, above))
                  ∙ sym (le-leb (market_position m q x) (slice_index bars q) (omega (arith, le, was)))
            ]
        | inr q_other ↦ ap (nat_le (market_position m q x)) (get_or-set_other bars p q (bar - 1) 0 q_other)
      ]

  still_beyond : (x s : ℕ) → AreBeyond m bars x s → AreBeyond m lower x s
  still_beyond x s beyond k lt =
      let q : ℕ = slice_index (list_of m x) k in
      let out : slice_index bars q < market_position m q x =
      leb-false (market_position m q x) (slice_index bars q) (beyond k lt) in
      lt-leb (market_position m q x) (slice_index lower q) (omega (arith, out, lower_le q))

  -- the others stand where they stood
  others_stand : (x s : ℕ) → x ≢ who → IsStand m bars x s → IsStand m lower x s
  others_stand x s other stand =
      stand_from m lower x s stand.within (still_beyond x s stand.beyond)
      (λ lt. same_within x (slice_index (list_of m x) s) (inl other) ∙ reached_at m bars x s stand lt)

  -- and so does who stands at the bar, where they have another place
  stands_elsewhere : (s : ℕ) → is_at p (best_within m bars who) ≡ false → IsStand m bars who s → IsStand m lower who s
  stands_elsewhere s away stand =
      stand_from m lower who s stand.within (still_beyond who s stand.beyond)
      (λ lt.
      let q : ℕ = slice_index (list_of m who) s in
      let best : best_within m bars who ≡ Some q = sym stand.best ∙ slice_get-get_or (list_of m who) s 0 lt in
      let other : q ≢ p = λ e. false≢true (sym away ∙ ap (is_at p) best ∙ eq-eqb p q (sym e)) in
      same_within who q (inr other) ∙ reached_at m bars who s stand lt)

  -- where they have it, it is beyond reach now
  now_beyond : (s : ℕ) → best_within m bars who ≡ Some p → IsStand m bars who s
      → (s < length (list_of m who)) × AreBeyond m lower who (s + 1)
  now_beyond s best stand =
      let found : slice_get (list_of m who) s ≡ Some p = stand.best ∙ best in
      let entry : slice_index (list_of m who) s ≡ p = get_or_from_slice_get (list_of m who) s p 0 found in (
        slice_get_within (list_of m who) s p found,
        beyond_more m lower who s (still_beyond who s stand.beyond)
            (omega (
              arith,
              ap (slice_index lower) entry,
              lower_here,
              ap
                  (λ o. market_position m o who) entry,
              at_who,
              above,
            )),
      )

  under_now : ((q : ℕ) → slice_index bars q ≤ length (market_order m q)) → (q : ℕ)
      → slice_index lower q ≤ length (market_order m q)
  under_now all q = omega (arith, lower_le q, all q)

  others_best : (stands : List ℕ) → AreStands m bars stands → (x : ℕ) → x ≢ who → x < length m.lists
      → best_within m lower x ≡ best_within m bars x
  others_best stands are x other lt =
      let stand = are.each x lt in
      sym (others_stand x (slice_index stands x) other stand).best ∙ stand.best

-- the places are those of the best within reach, for all or up to the end of the lists
pub places_from : (m : MarketRows) (bars : List ℕ) (places : List (Option ℕ)) → length places ≡ length m.lists
    → ((x : ℕ) → x < length m.lists → place_of places x ≡ best_within m bars x) → (x : ℕ)
    → place_of places x ≡ best_within m bars x
places_from m bars places each are x =
    elim (cases_lt x (length m.lists)) [
      | inl lt ↦ are x lt
      | inr past ↦ get_or_past places x None (omega (arith, past, each)) ∙ sym (past_lists m bars x past)
    ]

pub are_matched : (m : MarketRows) (bars : List ℕ) (places : List (Option ℕ)) → length places ≡ length m.lists
    → ((x : ℕ) → place_of places x ≡ best_within m bars x) → places ≡ matched_under m bars
are_matched m bars places each are = fill_by_all (best_within m bars) places (length m.lists) None each (λ k lt. are k)

module _ (m : MarketRows) (bars stands : List ℕ) (places : List (Option ℕ)) (f : Fill)
    (round : IsRound m bars stands places f)
    (p : ℕ) (p_lt : p < length m.orders) (above : 0 < slice_index bars p) where
  abbrev low : List ℕ
  low = set bars p (slice_index bars p - 1)

  abbrev next : ℕ
  next = candidate_at m p (slice_index bars p)

  low_each : length low ≡ length m.orders
  low_each = length-set bars p (slice_index bars p - 1) ∙ round.seated.one_bar_each

  low_under : (q : ℕ) → slice_index low q ≤ length (market_order m q)
  low_under = under_now m round.valid bars p p_lt round.seated.one_bar_each above
      (round.seated.under p) round.seated.under

  others : (x : ℕ) → x ≢ next → x < length m.lists → IsStand m low x (slice_index stands x)
  others x other lt =
      others_stand m round.valid bars p p_lt round.seated.one_bar_each above (round.seated.under p) x
      (slice_index stands x) other
      (round.seated.stood.each x lt)

  -- nobody moves on
  stays : next < length m.lists → is_at p (place_of places next) ≡ false → IsRound m low stands places f
  stays next_lt away =
      let away_best : is_at p (best_within m bars next) ≡ false =
      ap (is_at p) (sym (round.seated.placed next)) ∙ away in
      let Q : ℕ → Type 0 = λ z. IsStand m low z (slice_index stands z) in
      let stood : (x : ℕ) → x < length m.lists → IsStand m low x (slice_index stands x) =
      λ x lt. elim (cases_eq x next) [
        | inl here ↦
            subst Q (sym here)
            (stands_elsewhere m round.valid bars p p_lt round.seated.one_bar_each above (round.seated.under p)
            (slice_index stands next)
            away_best
            (round.seated.stood.each next next_lt))
        | inr other ↦ others x other lt
      ] in
      record {
        valid = round.valid;
        positions = round.positions;
        seated = record {
          one_bar_each = low_each;
          under = low_under;
          stood = record { one_each = round.seated.stood.one_each; each = stood };
          one_place_each = round.seated.one_place_each;
          placed =
              places_from m low places round.seated.one_place_each
              (λ x lt. round.seated.placed x ∙ sym (round.seated.stood.each x lt).best ∙ (stood x lt).best);
        };
        seats = round.seats;
        counts = round.counts;
      }

  -- who has a place at the bar moves on
  moves : (new : List ℕ) (now : List (Option ℕ)) (g : Fill) → next < length m.lists
      → IsStand m low next (slice_index new next)
      → new ≡ set stands next (slice_index new next) → now ≡ set places next (best_within m low next)
      → g.seats ≡ f.seats
      → AreCounts (length m.orders) now g.counts → IsRound m low new now g
  moves new now g next_lt stand new_is now_is seats counts =
      let s : ℕ = slice_index new next in
      let now_long : length now ≡ length m.lists = ap length now_is ∙ length-set places next (best_within m low next)
      ∙ round.seated.one_place_each in
      let Q : ℕ → Type 0 = λ z. IsStand m low z (slice_index new z) in
      let stood : (x : ℕ) → x < length m.lists → IsStand m low x (slice_index new x) =
      λ x lt. elim (cases_eq x next) [
        | inl here ↦ subst Q (sym here) stand
        | inr other ↦
            let same : slice_index new x ≡ slice_index stands x = ap (λ (xs : List ℕ). get_or xs x 0) new_is
            ∙ get_or-set_other stands next x s 0 other in
            let R : ℕ → Type 0 = λ v. IsStand m low x v in
            subst R (sym same) (others x other lt)
      ] in
      let placed : (x : ℕ) → x < length m.lists → place_of now x ≡ best_within m low x =
      λ x lt. elim (cases_eq x next) [
        | inl here ↦
            let same : place_of now next ≡ best_within m low next =
            ap (λ (xs : List (Option ℕ)). get_or xs next None) now_is
            ∙ get_or-set_same places next (best_within m low next) None
            (omega (arith, next_lt, round.seated.one_place_each)) in
            let S : ℕ → Type 0 = λ z. place_of now z ≡ best_within m low z in
            subst S (sym here) same
        | inr other ↦
            ap (λ (xs : List (Option ℕ)). get_or xs x None) now_is
            ∙ get_or-set_other places next x (best_within m low next) None other
            ∙ round.seated.placed x ∙ sym (round.seated.stood.each x lt).best ∙ (others x other lt).best
      ] in
      record {
        valid = round.valid;
        positions = round.positions;
        seated = record {
          one_bar_each = low_each;
          under = low_under;
          stood = record {
            one_each = ap length new_is ∙ length-set stands next s ∙ round.seated.stood.one_each;
            each = stood;
          };
          one_place_each = now_long;
          placed = places_from m low now now_long placed;
        };
        seats = seats ∙ round.seats;
        counts = counts;
      }

-- what is read of a market, of its bars and of the places, as a bar falls
module _ {m : MarketRows} {bars stands : List ℕ} {places : List (Option ℕ)} {f : Fill}
    (round : IsRound m bars stands places f)
    (p : ℕ) (p_lt : p < length m.orders) (above : 0 < slice_index bars p)
    {r : MarketRows} (same : r ≡ m) {order : List ℕ} (order_is : order ≡ market_order r p)
    (within : All (λ x. x < length r.lists) order)
    {height : ℕ} (height_is : height ≡ get_or bars p height) where
  abbrev who_is_there : ℕ
  who_is_there = get_or order (height - 1) 0

  pub bar_read : height ≡ slice_index bars p
  bar_read = height_is ∙ get_or_default bars p height 0 (omega (arith, p_lt, round.seated.one_bar_each))

  order_read : order ≡ market_order m p
  order_read = order_is ∙ ap (λ (rows : MarketRows). market_order rows p) same

  pub position_within : height - 1 < length order
  position_within = omega (arith, bar_read, above, round.seated.under p, ap length order_read)

  pub who_within : who_is_there < length m.lists
  who_within = omega (arith, within (height - 1) 0 position_within, ap (λ (rows : MarketRows). length rows.lists) same)

  next_is : who_is_there ≡ next m bars stands places f round p p_lt above
  next_is = ap (λ n. get_or order (n - 1) 0) bar_read
      ∙ ap (λ (xs : List ℕ). get_or xs (slice_index bars p - 1) 0) order_read

  next_within : next m bars stands places f round p p_lt above < length m.lists
  next_within = omega (arith, who_within, next_is)

  module _ {lower_bars : List ℕ} (lower_is : lower_bars ≡ set bars p (height - 1)) where
    pub lowered : lower_bars ≡ low m bars stands places f round p p_lt above
    lowered = lower_is ∙ ap (λ n. set bars p (n - 1)) bar_read

    bars_each : length lower_bars ≡ length m.orders
    bars_each = ap length lowered ∙ low_each m bars stands places f round p p_lt above

    module _ {place : Option ℕ} (place_is : place ≡ get_or places who_is_there place) where
      place_read : place ≡ place_of places who_is_there
      place_read = place_is ∙ get_or_default places who_is_there place None
          (omega (arith, who_within, round.seated.one_place_each))

      pub nobody_moves : is_at p place ≡ false → IsRound m lower_bars stands places f
      nobody_moves away =
          let P : List ℕ → Type 0 = λ bs. IsRound m bs stands places f in
          subst P (sym lowered)
          (stays m bars stands places f round p p_lt above next_within
          (ap (λ z. is_at p (place_of places z)) (sym next_is) ∙ ap (is_at p) (sym place_read) ∙ away))

      -- what it takes to move on
      had_place : is_at p place ≡ true → place_of places who_is_there ≡ Some p
      had_place holds = sym place_read ∙ at_place p place holds

      entry_left : is_at p place ≡ true → (slice_index stands who_is_there < length (list_of m who_is_there))
          × AreBeyond m lower_bars who_is_there (slice_index stands who_is_there + 1)
      entry_left holds =
          let x : ℕ = next m bars stands places f round p p_lt above in
          let best : best_within m bars x ≡ Some p = sym (round.seated.placed x) ∙ ap (place_of places) (sym next_is)
          ∙ had_place holds in
          let P : ℕ → List ℕ → Type 0 =
          λ z bs. (slice_index stands z < length (list_of m z)) × AreBeyond m bs z (slice_index stands z + 1) in
          let here : P x (low m bars stands places f round p p_lt above) =
          now_beyond m round.valid bars p p_lt round.seated.one_bar_each above (round.seated.under p)
          (slice_index stands x) best
          (round.seated.stood.each x next_within) in
          subst (P who_is_there) (sym lowered) (subst (λ z. P z (low m bars stands places f round p p_lt above))
          (sym next_is) here)

      pub leaving : is_at p place ≡ true → IsLeaving m lower_bars who_is_there p stands places
      leaving holds =
          record {
            one_bar_each = bars_each;
            candidate = who_within;
            had = had_place holds;
            on_list = (entry_left holds).0;
            beyond = (entry_left holds).1;
          }

    pub moves_on : (new : List ℕ) (now : List (Option ℕ)) (g : Fill)
        → HasMovedOn m lower_bars who_is_there stands places new now → g.seats ≡ f.seats
        → AreCounts (length g.seats) now g.counts → IsRound m lower_bars new now g
    moves_on new now g moved seats counts =
        let lower : List ℕ = low m bars stands places f round p p_lt above in
        let P : List ℕ → Type 0 = λ bs. IsRound m bs new now g in
        let S : ℕ → List ℕ → Type 0 = λ z bs. IsStand m bs z (slice_index new z) in
        let N : ℕ → List ℕ → Type 0 = λ z bs. now ≡ set places z (best_within m bs z) in
        let M : ℕ → Type 0 = λ z. new ≡ set stands z (slice_index new z) in
        let C : ℕ → Type 0 = λ n. AreCounts n now g.counts in
        let long : length g.seats ≡ length m.orders =
        ap length seats ∙ ap length round.seats ∙ round.valid.one_seat_each in
        subst P (sym lowered)
        (moves m bars stands places f round p p_lt above new now g next_within
        (subst (λ z. S z lower) next_is (subst (S who_is_there) lowered moved.stand)) (subst M next_is moved.stood)
        (subst (λ z. N z lower) next_is (subst (N who_is_there) lowered moved.placed)) seats (subst C long counts))

-- a round, as it begins: what is read of its market, and what is made of it
module _ {m : MarketRows} (is : IsMarket m) {bars : List ℕ} (each : length bars ≡ length m.orders)
    (under : (p : ℕ) → slice_index bars p ≤ length (market_order m p)) {stands : List ℕ}
    (stood : AreStands m bars stands)
    {r : MarketRows} (same : r ≡ m) {places : List (Option ℕ)} (are : places ≡ matched_under r bars)
    {r' : MarketRows} (same' : r' ≡ m) {read : List (Option ℕ)} (read_is : read ≡ places) {counts : List ℕ}
    (counted : AreCounts (length r'.orders) read counts)
    {r'' : MarketRows} (same'' : r'' ≡ m) {seats : List ℕ} (seats_are : seats ≡ r''.seats)
    {f : Fill} (f_is : f ≡ record { seats = seats; counts = counts }) where
  matched : places ≡ matched_under m bars
  matched = are ∙ ap (λ (rows : MarketRows). matched_under rows bars) same

  pub round_from : IsRound m bars stands places f
  round_from =
      let P : Fill → Type 0 = λ g. IsRound m bars stands places g in
      let Q : ℕ → List (Option ℕ) → Type 0 = λ n ps. AreCounts n ps counts in
      subst P (sym f_is) (record {
        valid = is;
        positions = positions_kept m is;
        seated = record {
          one_bar_each = each;
          under = under;
          stood = stood;
          one_place_each = ap length matched ∙ length-map-range_with_len (best_within m bars) 0 (length m.lists);
          placed = λ x. ap (λ (ps : List (Option ℕ)). place_of ps x) matched ∙ place_under m bars x;
        };
        seats = seats_are ∙ ap (λ (rows : MarketRows). rows.seats) same'';
        counts = subst (λ n. Q n places) (ap (λ (rows : MarketRows). length rows.orders) same')
            (subst (Q (length r'.orders)) read_is counted);
      })

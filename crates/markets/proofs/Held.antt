-- Who holds a place in a programme under bars: as many as the positions that are demanded.
use Rattle.std.proofs.Common.{ℕ, suc, ◌+◌, ◌-◌, ◌≤◌, ◌<◌, ◌≡◌, Bool, true, false, ◌&&◌, List, [], ◌∷◌, length, get_or}
use Rattle.std.proofs.Common.{refl, sym, ◌∙◌, ap, arith, filter, inl, inr}
use Rattle.std.specs.Prelude.{Option, None, find}
use Rattle.std.specs.List.{range_with_len}
use Rattle.std.proofs.lemmas.Bool.{cases_Bool, cases_lt}
use Rattle.std.proofs.lemmas.Cmp.{nat_eq_equiv}
use Rattle.std.proofs.lemmas.List.{get_or_past}
use Rattle.std.proofs.lemmas.List.FromFn.{length-map-range_with_len, get_or-map-range_with_len}
use Rattle.std.proofs.lemmas.Map.Made.{length-from_same_keys}
use Rattle.admit_core.specs.Lists.{is_among}
use Rattle.admit_core.proofs.Counting.{distinct_kept}
use Rattle.admit_core.proofs.FullBeds.{rising_distinct}
use Rattle.day_state.proofs.Ascending.{range_rises}
use Rattle.linked_demand.proofs.HousedRows.{filter_among}
use Rattle.markets.specs.Markets.{MarketRows, IsMarket, market_order, lists_it, candidate_at}
use Rattle.markets.specs.Matchings.{place_of, is_at, holders}
use Rattle.markets.specs.Bars.{is_within, best_within, demanded, matched_under}
use Rattle.markets.proofs.Firsts.{range_has, at_place}
use Rattle.markets.proofs.Positions.{order_distinct, is_candidate, in_order}
use Rattle.markets.proofs.Lawful.{best_is_listed}

-- nobody past the end of the lists has a programme within reach
pub past_lists : (m : MarketRows) (bars : List ℕ) (x : ℕ) → length m.lists ≤ x → best_within m bars x ≡ None
past_lists m bars x past = ap (find (is_within m bars x)) (get_or_past m.lists x [] past)

-- the place of each candidate under bars
pub place_under : (m : MarketRows) (bars : List ℕ) (x : ℕ) → place_of (matched_under m bars) x ≡ best_within m bars x
place_under m bars x =
    elim (cases_lt x (length m.lists)) [
      | inl lt ↦ get_or-map-range_with_len (best_within m bars) 0 (length m.lists) x x None lt (omega arith)
      | inr past ↦
          get_or_past (matched_under m bars) x None
          (omega (arith, past, length-map-range_with_len (best_within m bars) 0 (length m.lists)))
          ∙ sym (past_lists m bars x past)
    ]

-- as many positions of a list pass as members
same_count : (t : ℕ → Bool) (xs : List ℕ) (a : ℕ) (at : ℕ → ℕ) → ((k : ℕ) → k < length xs → at (a + k) ≡ get_or xs k 0)
    → length (filter (λ r. t (at r)) (range_with_len a (length xs))) ≡ length (filter t xs)
same_count t [] a at same = refl
same_count t (x ∷ xs) a at same =
    let here : at a ≡ x = (let e : a + 0 ≡ a = omega arith in ap at (sym e) ∙ same 0 (omega arith)) in
    let rest : length (filter (λ r. t (at r)) (range_with_len (a + 1) (length xs))) ≡ length (filter t xs) =
    same_count t xs (a + 1) at (λ k lt. let e : a + 1 + k ≡ a + suc k = omega arith in
    ap at e ∙ same (suc k) (omega (arith, lt))) in
    elim (cases_Bool (t x)) [
      | inl passes ↦ let there : t (at a) ≡ true = ap t here ∙ passes in rw (there, passes) (ap suc rest)
      | inr fails ↦ let there : t (at a) ≡ false = ap t here ∙ fails in rw (there, fails) rest
    ]

none_and : (a b : Bool) → (a && false) ≡ (b && false)
none_and true true = refl
none_and true false = refl
none_and false true = refl
none_and false false = refl

-- where each has the best programme within reach, a programme has as many as it has demanded positions
pub holders_are_demanded : (m : MarketRows) → IsMarket m → (bars : List ℕ) (places : List (Option ℕ))
    → length places ≡ length m.lists
    → ((x : ℕ) → place_of places x ≡ best_within m bars x) → (p : ℕ) → p < length m.orders
    → length (holders places p) ≡ length (demanded m bars p)
holders_are_demanded m is bars places each are p lt =
    let order : List ℕ = market_order m p in
    let chosen : ℕ → Bool = λ x. is_at p (best_within m bars x) in
    let holds : ℕ → Bool = λ x. is_at p (place_of places x) in
    let range : List ℕ = range_with_len 0 (length places) in
    let by_position : length (demanded m bars p) ≡ length (filter chosen order) =
    same_count chosen order 1 (candidate_at m p)
    (λ k k_lt. let e : 1 + k - 1 ≡ k = omega arith in ap (λ i. get_or order i 0) e) in
    let listed : (x : ℕ) → chosen x ≡ true
    → lists_it m p x ≡ true = λ x t. best_is_listed m bars x p (at_place p (best_within m bars x) t) in
    let same : (x : ℕ) → is_among x (filter holds range) ≡ is_among x (filter chosen order) =
    λ x.
    elim (cases_Bool (chosen x)) [
      | inl t ↦
          let held : holds x ≡ true = ap (is_at p) (are x) ∙ t in
          let in_range : is_among x range ≡ true = range_has x 0 (length places) (omega arith)
          (omega (arith, is_candidate m is p x (listed x t), each)) in
          let in_it : is_among x order ≡ true = in_order m is p x (listed x t) in
          filter_among holds x range ∙ rw (held, in_range) (sym (filter_among chosen x order ∙ rw (t, in_it) refl))
      | inr f ↦
          let held : holds x ≡ false = ap (is_at p) (are x) ∙ f in
          filter_among holds x range ∙ ap (λ b. is_among x range && b) held
          ∙ none_and (is_among x range) (is_among x order)
          ∙ ap (λ b. is_among x order && b) (sym f) ∙ sym (filter_among chosen x order)
    ] in
    length-from_same_keys nat_eq_equiv (filter holds range) (filter chosen order)
    (distinct_kept holds range (rising_distinct range (range_rises 0 (length places))))
    (distinct_kept chosen order (order_distinct m is p lt))
    same
    ∙ sym by_position

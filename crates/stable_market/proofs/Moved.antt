-- A matching that is stable in a market is stable in another, where the list of one candidate differs.
use Rattle.std.proofs.Common.{ℕ, ◌≡◌, Bool, true, ◌||◌, List, [], ◌∷◌, length, refl, sym, ◌∙◌, ap, arith, nat_lt, inl}
use Rattle.std.proofs.Common.{inr}
use Rattle.std.specs.Prelude.{Option, Some, slice_index}
use Rattle.std.specs.List.{list_any, before_first, range_with_len}
use Rattle.std.proofs.lemmas.Bool.{cases_eq, and_parts, or_left, or_right, eq-eqb}
use Rattle.admit_core.specs.Lists.{is_among}
use Rattle.linked_demand.proofs.HousedRows.{filter_among}
use Rattle.markets.specs.Markets.{MarketRows, list_of, lists_it, market_position}
use Rattle.markets.specs.Matchings.{place_of, is_at, holders, prefers, IsStable}
use Rattle.stable_market.specs.Truth.{DifferAtMostIn}
use Rattle.markets.proofs.Firsts.{among_before, at_place}
use Rattle.std.proofs.Common.{nat_eq}

any_same : (t u : ℕ → Bool) (xs : List ℕ) → ((z : ℕ) → is_among z xs ≡ true → t z ≡ u z) → list_any t xs ≡ list_any u xs
any_same t u [] same = refl
any_same t u (x ∷ xs) same =
    ap (λ b. b || list_any t xs) (same x (or_left (nat_eq x x) (is_among x xs) (eq-eqb x x refl)))
    ∙ ap (λ b. u x || b) (any_same t u xs (λ z among. same z (or_right (nat_eq z x) (is_among z xs) among)))

-- who holds a place in a programme has it
holder_at : (places : List (Option ℕ)) (p y : ℕ) → is_among y (holders places p) ≡ true → place_of places y ≡ Some p
holder_at places p y t =
    let holds : ℕ → Bool = λ z. is_at p (place_of places z) in
    let range : List ℕ = range_with_len 0 (length places) in
    at_place p (place_of places y) (and_parts (is_among y range) (holds y) (sym (filter_among holds y range) ∙ t)).1

on_list : (m : MarketRows) (places : List (Option ℕ)) (y p : ℕ) → prefers m places y p ≡ true → lists_it m p y ≡ true
on_list m places y p t = (among_before (λ q. is_at q (place_of places y)) p (list_of m y) t).0

module _ (x : ℕ) (a b : MarketRows) (alike : DifferAtMostIn x a b) (places : List (Option ℕ))
    (stable : IsStable a places)
    (listed : (p : ℕ) → place_of places x ≡ Some p → lists_it b p x ≡ true)
    (less : (p : ℕ) → prefers b places x p ≡ true → prefers a places x p ≡ true) where
  listed_there : (y p : ℕ) → place_of places y ≡ Some p → lists_it b p y ≡ true
  listed_there y p at =
      elim (cases_eq y x) [
        | inl here ↦ ap (lists_it b p) here ∙ listed p (ap (place_of places) (sym here) ∙ at)
        | inr other ↦ ap (is_among p) (sym (alike.same_lists y other)) ∙ stable.matching.listed y p at
      ]

  wanted_here : (y p : ℕ) → prefers b places y p ≡ true → prefers a places y p ≡ true
  wanted_here y p t =
      elim (cases_eq y x) [
        | inl here ↦ ap (λ z. prefers a places z p) here ∙ less p (ap (λ z. prefers b places z p) (sym here) ∙ t)
        | inr other ↦
            ap (λ (xs : List ℕ). is_among p (before_first (λ q. is_at q (place_of places y)) xs))
            (alike.same_lists y other) ∙ t
      ]

  -- the same holders stand later
  same_later : (y p : ℕ) → prefers b places y p ≡ true
      → list_any (λ z. nat_lt (market_position b p y) (market_position b p z)) (holders places p)
      ≡ list_any (λ z. nat_lt (market_position a p y) (market_position a p z)) (holders places p)
  same_later y p t =
      any_same (λ z. nat_lt (market_position b p y) (market_position b p z))
      (λ z. nat_lt (market_position a p y) (market_position a p z))
      (holders places p)
      (λ z among.
      let at = holder_at places p z among in
      sym (alike.same_ranks p y z (on_list a places y p (wanted_here y p t)) (stable.matching.listed z p at)
      (on_list b places y p t)
      (listed_there z p at)))

  pub stable_there : IsStable b places
  stable_there =
      record {
        matching = record {
          one_place_each = stable.matching.one_place_each ∙ alike.candidates;
          listed = listed_there;
          seated = λ p lt.
              let same : slice_index a.seats p ≡ slice_index b.seats p =
              ap (λ (s : List ℕ). slice_index s p) alike.same_seats in
              omega (arith, stable.matching.seated p (omega (arith, lt, ap length alike.same_seats)), same);
        };
        no_block = λ y p t.
            let held : ℕ = length (holders places p) in
            let later : Bool = list_any (λ z. nat_lt (market_position b p y) (market_position b p z))
            (holders places p) in
            ap (λ (s : List ℕ). nat_lt held (slice_index s p) || later) (sym alike.same_seats)
            ∙ ap (λ c. nat_lt held (slice_index a.seats p) || c) (same_later y p t)
            ∙ stable.no_block y p (wanted_here y p t);
      }

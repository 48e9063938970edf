-- What is noted of the candidates of a matching, one after another: the last of each programme.
use Rattle.std.proofs.Common.{ℕ, ◌+◌, ◌<◌, ◌≡◌, Bool, true, false, cond, ◌||◌, List, [], ◌∷◌, ◌++◌, length, get_or, inl}
use Rattle.std.proofs.Common.{inr, refl, sym, ◌∙◌, ap, subst, arith, nat_lt, Option, Some, None, set}
use Rattle.std.specs.Prelude.{slice_index, replicate, max}
use Rattle.std.specs.List.{list_any}
use Rattle.std.proofs.lemmas.Bool.{cases_eq, cases_lt, eq-eqb, ne_eqb, lt-ltb, le-ltb}
use Rattle.std.proofs.lemmas.List.{length-set, append-nil, length-replicate, get_or-replicate, get_or-set_same}
use Rattle.std.proofs.lemmas.List.{get_or-set_other}
use Rattle.std.proofs.lemmas.List.Folds.{list_any-append}
use Rattle.admit_core.proofs.Plain.{or_false}
use Rattle.bar_fixpoint.proofs.Listing.{filter_more}
use Rattle.markets.specs.Markets.{MarketRows, market_position}
use Rattle.markets.specs.Matchings.{place_of, is_at}
use Rattle.stable_market.specs.Blocks.{AreLasts, noted}
use Rattle.markets.proofs.Noting.{holders_to}

-- the last position at which one is
pub record AreLastsTo (m : MarketRows) (places : List (Option ℕ)) (k : ℕ) (lasts : List ℕ) : Type 0 where
  pub one_each : length lasts ≡ length m.orders
  pub each : (p j : ℕ) → p < length m.orders
      → nat_lt j (slice_index lasts p) ≡ list_any (λ y. nat_lt j (market_position m p y)) (holders_to places p k)

past_max : (j a b : ℕ) → nat_lt j (max a b) ≡ (nat_lt j a || nat_lt j b)
past_max j a b =
    elim (cases_lt j a) [
      | inl lt ↦ lt-ltb j (max a b) (omega arith) ∙ sym (ap (λ t. t || nat_lt j b) (lt-ltb j a lt))
      | inr past ↦
          elim (cases_lt j b) [
            | inl lt ↦ lt-ltb j (max a b) (omega arith) ∙ sym (rw (le-ltb j a past) (lt-ltb j b lt))
            | inr over ↦ le-ltb j (max a b) (omega arith) ∙ sym (rw (le-ltb j a past) (le-ltb j b over))
          ]
    ]

pub lasts_none : (m : MarketRows) (places : List (Option ℕ)) (lasts : List ℕ) → lasts ≡ replicate (length m.orders) 0
    → AreLastsTo m places 0 lasts
lasts_none m places lasts are =
    record {
      one_each = ap length are ∙ length-replicate (length m.orders) 0;
      each = λ p j lt.
          let none : slice_index lasts p ≡ 0 = ap (λ (xs : List ℕ). get_or xs p 0) are
          ∙ get_or-replicate (length m.orders) p 0 0 lt in
          le-ltb j (slice_index lasts p) (omega (arith, none));
    }

pub lasts_more : (m : MarketRows) (places : List (Option ℕ)) (k : ℕ) (lasts new : List ℕ) (o : Option ℕ)
    → place_of places k ≡ o
    → ((p : ℕ) → o ≡ Some p → p < length m.orders) → AreLastsTo m places k lasts → new ≡ noted m k lasts o
    → AreLastsTo m places (k + 1) new
lasts_more m places k lasts new o is within are new_is = by o is within new_is
  where
    held : ℕ → ℕ → Bool
    held p y = is_at p (place_of places y)

    over : (p : ℕ) → held p k ≡ false → holders_to places p (k + 1) ≡ holders_to places p k
    over p out = filter_more (held p) k ∙ ap (λ b. holders_to places p k ++ cond b (k ∷ []) []) out
        ∙ append-nil (holders_to places p k)

    grown : (p : ℕ) → held p k ≡ true → holders_to places p (k + 1) ≡ holders_to places p k ++ k ∷ []
    grown p here = filter_more (held p) k ∙ ap (λ b. holders_to places p k ++ cond b (k ∷ []) []) here

    by : (o : Option ℕ) → place_of places k ≡ o → ((p : ℕ) → o ≡ Some p → p < length m.orders) → new ≡ noted m k lasts o
        → AreLastsTo m places (k + 1) new
    by None is within new_is =
        record {
          one_each = ap length new_is ∙ are.one_each;
          each = λ p j lt.
              ap (λ (xs : List ℕ). nat_lt j (get_or xs p 0)) new_is ∙ are.each p j lt
              ∙ ap (list_any (λ y. nat_lt j (market_position m p y))) (sym (over p (ap (is_at p) is)));
        }
    by (Some q) is within new_is =
        let value : ℕ = max (slice_index lasts q) (market_position m q k) in
        let q_lt : q < length lasts = omega (arith, within q refl, are.one_each) in
        record {
          one_each = ap length new_is ∙ length-set lasts q value ∙ are.one_each;
          each = λ p j lt.
              elim (cases_eq p q) [
                | inl here ↦
                    let now : slice_index new p ≡ max (slice_index lasts p) (market_position m p k) =
                    ap (λ (xs : List ℕ). get_or xs p 0) new_is ∙ ap (slice_index (set lasts q value)) here
                    ∙ get_or-set_same lasts q value 0 q_lt
                    ∙ ap (λ i. max (slice_index lasts i) (market_position m i k)) (sym here) in
                    let t : ℕ → Bool = λ y. nat_lt j (market_position m p y) in
                    ap (nat_lt j) now ∙ past_max j (slice_index lasts p) (market_position m p k)
                    ∙ ap (λ b. b || t k) (are.each p j lt)
                    ∙ ap (λ b. list_any t (holders_to places p k) || b) (sym (or_false (t k)))
                    ∙ sym (list_any-append t (holders_to places p k) (k ∷ []))
                    ∙ ap (list_any t) (sym (grown p (ap (is_at p) is ∙ eq-eqb p q here)))
                | inr other ↦
                    let now : slice_index new p ≡ slice_index lasts p = ap (λ (xs : List ℕ). get_or xs p 0) new_is
                    ∙ get_or-set_other lasts q p value 0 other in
                    ap (nat_lt j) now ∙ are.each p j lt
                    ∙ ap (list_any (λ y. nat_lt j (market_position m p y)))
                    (sym (over p (ap (is_at p) is ∙ ne_eqb p q other)))
              ];
        }

pub lasts_all : (m : MarketRows) (k : ℕ) (places : List (Option ℕ)) (lasts : List ℕ) → k ≡ length places
    → AreLastsTo m places k lasts
    → AreLasts m places lasts
lasts_all m k places lasts k_is are =
    let P : ℕ → Type 0 = λ j. AreLastsTo m places j lasts in
    let whole = subst P k_is are in
    record { one_each = whole.one_each; each = whole.each }

-- What ties the stands, the places and the counts of a seating, as it begins and as one moves on.
use Rattle.std.proofs.Common.{ℕ, ◌-◌, ◌<◌, ◌≡◌, List, length, inl, inr, sym, ◌∙◌, ap, subst, arith, Option, Some, None}
use Rattle.std.proofs.Common.{set}
use Rattle.std.specs.Prelude.{is_some, slice_index}
use Rattle.std.proofs.lemmas.Bool.{cases_eq, cases_lt, false≢true}
use Rattle.std.proofs.lemmas.List.{length-set, get_or-set_same, get_or-set_other, get_or_past}
use Rattle.markets.specs.Markets.{MarketRows, IsSmall}
use Rattle.markets.specs.Matchings.{place_of}
use Rattle.markets.specs.Bars.{best_within}
use Rattle.markets.specs.Fillings.{Fill, counted_in}
use Rattle.markets.proofs.Lawful.{best_is_listed}
use Rattle.markets.proofs.Positions.{is_programme}
use Rattle.markets.specs.Rounds.{AreCounts, IsRound}
use Rattle.markets.specs.Seatings.{AreTied}
use Rattle.markets.proofs.Noting.{counts_put}

-- a place is kept of whoever has one
pub placed_below : (places : List (Option ℕ)) (x p : ℕ) → place_of places x ≡ Some p → x < length places
placed_below places x p is =
    elim (cases_lt x (length places)) [
      | inl lt ↦ lt
      | inr past ↦ absurd (false≢true (sym (ap is_some (get_or_past places x None past)) ∙ ap is_some is))
    ]

-- a round of a market is tied
pub tied_from : {m : MarketRows} {bars stands : List ℕ} {places : List (Option ℕ)} {f : Fill} → IsSmall m
    → IsRound m bars stands places f → AreTied stands places f
tied_from {m} {bars} {stands} {places} {f} small round =
    let long : length f.seats ≡ length m.orders = ap length round.seats ∙ round.valid.one_seat_each in
    let P : ℕ → Type 0 = λ k. AreCounts k places f.counts in
    record {
      one_place_each = round.seated.one_place_each ∙ sym round.seated.stood.one_each;
      few = omega (arith, round.seated.one_place_each, small.candidates);
      within = λ x p e.
          let best : best_within m bars x ≡ Some p = sym (round.seated.placed x) ∙ e in
          omega (arith, is_programme m round.valid p x (best_is_listed m bars x p best), long);
      counts = subst P (sym long) round.counts;
    }

-- one candidate has another place, or none
module _ {stands : List ℕ} {places : List (Option ℕ)} {f : Fill} (tied : AreTied stands places f) (x had : ℕ)
    (is : place_of places x ≡ Some had) (place : Option ℕ)
    (within : (p : ℕ) → place ≡ Some p → p < length f.seats) where
  x_lt : x < length places
  x_lt = placed_below places x had is

  others_within : (y p : ℕ) → place_of (set places x place) y ≡ Some p → p < length f.seats
  others_within y p e =
      elim (cases_eq y x) [
        | inl here ↦
            let same : place_of (set places x place) y ≡ place =
            ap (place_of (set places x place)) here ∙ get_or-set_same places x place None x_lt in
            within p (sym same ∙ e)
        | inr other ↦ tied.within y p (sym (get_or-set_other places x y place None other) ∙ e)
      ]

  pub tied_put : (g : Fill) → g.seats ≡ f.seats
      → g.counts ≡ counted_in (set f.counts had (slice_index f.counts had - 1)) place
      → AreTied stands (set places x place) g
  tied_put g seats counts =
      let n : ℕ = length f.seats in
      let P : ℕ → Type 0 = λ k. AreCounts k (set places x place) g.counts in
      record {
        one_place_each = length-set places x place ∙ tied.one_place_each;
        few = omega (arith, length-set places x place, tied.few);
        within = λ y p e. omega (arith, others_within y p e, ap length seats);
        counts = subst P (sym (ap length seats))
            (counts_put n places x had place f.counts g.counts x_lt is
            (tied.within x had is) within tied.counts counts);
      }

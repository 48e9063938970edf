use Rattle.std.proofs.Common.{ℕ, List, Option, Some, ◌≡◌, ◌∙◌, sym, ap, subst, arith, length}
use Rattle.std.proofs.lemmas.List.FromFn.{length-map-range_with_len}
use Rattle.markets.specs.Markets.{IsSmall, MarketRows, IsMarket}
use Rattle.markets.specs.Matchings.{place_of}
use Rattle.markets.specs.Bars.{best_within, matched_under}
use Rattle.markets.proofs.Lawful.{best_is_listed}
use Rattle.markets.proofs.Positions.{is_programme}
use Rattle.markets.proofs.Held.{place_under}
use Rattle.markets.proofs.Seated.{round_from}
use Rattle.markets.proofs.Tied.{tied_from}
use Rattle.markets.proofs.seating.seated_under.Goals as goal

pub counts_of-requires-clause-few : goal.counts_of-requires-clause-few
counts_of-requires-clause-few c =
    let m = c.market-2.result.now in
    omega (
      arith,
      ap length c.deref-2.ensures.value,
      ap length c.in_ok-places.ensures,
      length-map-range_with_len (best_within m c.args.bars.now) 0 (length m.lists),
      ap (λ (r : MarketRows). length r.lists) (c.market-2.ensures ∙ sym c.market.ensures),
      c.stands.ensures.small.candidates,
    )

pub counts_of-requires-clause-within : goal.counts_of-requires-clause-within
counts_of-requires-clause-within c =
    let m = c.args.market.now in
    let bars = c.args.bars.now in
    let P : MarketRows → Type 0 = IsMarket in
    let is = subst P c.market.ensures c.stands.ensures.market in
    let places_are : c.deref-2.result.now ≡ matched_under m bars =
    c.deref-2.ensures.value ∙ c.in_ok-places.ensures
    ∙ ap (λ (r : MarketRows). matched_under r bars) c.market-2.ensures in
    λ x p at.
    let best : best_within m bars x ≡ Some p =
    sym (place_under m bars x) ∙ ap (λ (ps : List (Option ℕ)). place_of ps x) (sym places_are)
    ∙ at in
    omega (
      arith,
      is_programme m is p x (best_is_listed m bars x p best),
      ap
          (λ (r : MarketRows). length r.orders) c.market-3.ensures,
    )

pub returns : goal.returns
returns c =
    let P : MarketRows → Type 0 = IsMarket in
    round_from (subst P c.market.ensures c.stands.ensures.market) c.requires.bars c.requires.under
    c.in_ok-stands.ensures
    c.market-2.ensures c.in_ok-places.ensures c.market-3.ensures c.deref-2.ensures.value c.in_ok-counts.ensures
    c.market-4.ensures c.all_seats.ensures c.in_ok-filling.ensures

pub invariant_of-result : goal.invariant_of-result
invariant_of-result c =
    let P : MarketRows → Type 0 = IsMarket in
    let Q : MarketRows → Type 0 = IsSmall in
    let round =
    round_from (subst P c.market.ensures c.stands.ensures.market) c.requires.bars c.requires.under
    c.in_ok-stands.ensures
    c.market-2.ensures c.in_ok-places.ensures c.market-3.ensures c.deref-2.ensures.value c.in_ok-counts.ensures
    c.market-4.ensures c.all_seats.ensures c.in_ok-filling.ensures in
    record { tied = tied_from (subst Q c.market.ensures c.stands.ensures.small) round }

use Rattle.std.proofs.Common.{◌≡◌, ◌<◌, ◌∙◌, ℕ, List, inl, inr, sym, ap, arith, length, subst, Some}
use Rattle.std.specs.Option.{is_some}
use Rattle.std.proofs.lemmas.Bool.{cases_eq}
use Rattle.markets.specs.Markets.{MarketRows}
use Rattle.markets.specs.Matchings.{block_of}
use Rattle.markets.proofs.Positions.{is_programme}
use Rattle.markets.specs.Rounds.{AreCounts}
use Rattle.markets.proofs.Ordering.{range_found}
use Rattle.stable_market.specs.Blocks.{AreLasts}
use Rattle.stable_market.proofs.Blocking.{stable_from}
use Rattle.stable_market.proofs.block.first_block.Goals as goal

pub returns-in-Some : goal.returns-in-Some
returns-in-Some c =
    let m = c.args.market.now in
    let k : ℕ = c.loop-candidate.candidate in
    let found : block_of m c.args.places.now k ≡ Some c.in-Some.programme =
    ap (λ (r : MarketRows). block_of r c.args.places.now k) (sym c.in_ok-ranked.ensures) ∙ sym c.block_of.ensures
    ∙ c.in-Some.is in
    let k_lt : k < length m.lists = omega (arith, c.loop-candidate-test.true, c.candidates-candidate-end.ensures) in (
      range_found (λ x. is_some (block_of m c.args.places.now x)) 0 (length m.lists) k (omega arith)
          (omega (arith, k_lt))
          c.loop-candidate.invariant (ap is_some found),
      found,
    )

pub returns : goal.returns
returns c =
    let m = c.args.market.now in
    stable_from m c.args.places.now c.requires
    (λ x le lt. c.loop-candidate.invariant x le
    (omega (arith, lt, c.loop-candidate-test.false, c.candidates-candidate-end.ensures)))

pub counts_of-requires-clause-within : goal.counts_of-requires-clause-within
counts_of-requires-clause-within c = λ x p at. is_programme c.args.market.now c.stands.ensures.market p x
    (c.requires.listed x p at)

pub lasts_of-requires-clause-within : goal.lasts_of-requires-clause-within
lasts_of-requires-clause-within c =
    λ x p at.
    omega (
      arith,
      is_programme c.args.market.now c.stands.ensures.market p x (c.requires.listed x p at),
      ap (λ (r : MarketRows). length r.orders) c.in_ok-ranked.ensures,
    )

pub lasts_of-requires-clause-places : goal.lasts_of-requires-clause-places
lasts_of-requires-clause-places c =
    c.requires.one_place_each ∙ ap (λ (r : MarketRows). length r.lists) (sym c.in_ok-ranked.ensures)

pub counts_of-requires-clause-few : goal.counts_of-requires-clause-few
counts_of-requires-clause-few c = omega (arith, c.requires.one_place_each, c.stands.ensures.small.candidates)

pub block_of-requires-clause-candidate : goal.block_of-requires-clause-candidate
block_of-requires-clause-candidate c =
    omega (
      arith,
      c.loop-candidate-test.true,
      c.candidates-candidate-end.ensures,
      ap (λ (r : MarketRows). length r.lists) c.in_ok-ranked.ensures,
    )

pub block_of-requires-clause-places : goal.block_of-requires-clause-places
block_of-requires-clause-places c =
    c.requires.one_place_each ∙ ap (λ (r : MarketRows). length r.lists) (sym c.in_ok-ranked.ensures)

pub block_of-requires-clause-counts : goal.block_of-requires-clause-counts
block_of-requires-clause-counts c =
    let P : ℕ → List ℕ → Type 0 = λ n xs. AreCounts n c.args.places.now xs in
    subst (λ n. P n c.deref.result.now) (ap (λ (r : MarketRows). length r.orders) (sym c.in_ok-ranked.ensures))
    (subst (P (length c.args.market.now.orders)) (sym c.deref.ensures.value) c.in_ok-counts.ensures)

pub block_of-requires-clause-lasts : goal.block_of-requires-clause-lasts
block_of-requires-clause-lasts c =
    let P : List ℕ → Type 0 = AreLasts c.in_ok-ranked.ranked c.args.places.now in
    subst P (sym c.deref-in-loop-candidate.ensures.value) c.in_ok-lasts.ensures

pub loop-candidate-preserved : goal.loop-candidate-preserved
loop-candidate-preserved c =
    let m = c.args.market.now in
    let places = c.args.places.now in
    let k : ℕ = c.loop-candidate.candidate in
    let none = ap (λ (r : MarketRows). block_of r places k) (sym c.in_ok-ranked.ensures) ∙ sym c.block_of.ensures
    ∙ c.in_default.is in
    λ x le lt. elim (cases_eq x k) [
      | inl here ↦ ap (λ y. is_some (block_of m places y)) here ∙ ap is_some none
      | inr other ↦ c.loop-candidate.invariant x le (omega (arith, lt, other))
    ]

use Rattle.std.proofs.Common.{ℕ, ◌∙◌, ap, arith, length, replicate, refl}
use Rattle.markets.specs.Matchings.{place_of}
use Rattle.markets.proofs.Noting.{few_to, counts_none, counts_more, counts_all}
use Rattle.markets.proofs.counts.counts_of.Goals as goal

pub count_in-requires-clause-few : goal.count_in-requires-clause-few
count_in-requires-clause-few c =
    let k : ℕ = c.loop-place.place-index in
    λ p e. omega (
      arith,
      c.loop-place.invariant.each p (c.requires.within k p e),
      few_to c.args.places.now p k,
      c.requires.few,
      c.loop-place-test.true,
    )

pub loop-place-preserved : goal.loop-place-preserved
loop-place-preserved c =
    let k : ℕ = c.loop-place.place-index in
    counts_more (length c.args.market.now.orders) c.args.places.now k c.loop-place.counts.items
    c.count_in.new.counts.items
    (place_of c.args.places.now k) refl
    (λ p e. c.requires.within k p e) c.loop-place.invariant c.count_in.ensures

pub loop-place-init : goal.loop-place-init
loop-place-init c =
    counts_none (length c.args.market.now.orders) c.args.places.now c.in_ok-counts.counts.items
    (c.in_ok-counts.ensures.items_if_clones_equal (λ y e. e) ∙ ap (λ (n : ℕ). replicate n 0) c.programmes.ensures)

pub count_in-requires-clause-within : goal.count_in-requires-clause-within
count_in-requires-clause-within c =
    λ p e. omega (arith, c.loop-place.invariant.one_each, c.requires.within c.loop-place.place-index p e)

pub returns : goal.returns
returns c =
    counts_all (length c.args.market.now.orders) c.loop-place.place-index c.args.places.now c.loop-place.counts.items
    (omega (arith, c.loop-place-test.false, c.loop-place.auto.place-index-end)) c.loop-place.invariant

use Rattle.std.proofs.Common.{ℕ, ◌∙◌, ap, arith, length, refl, replicate}
use Rattle.markets.specs.Markets.{MarketRows}
use Rattle.markets.specs.Matchings.{place_of}
use Rattle.stable_market.proofs.LastNoting.{lasts_all, lasts_more, lasts_none}
use Rattle.stable_market.proofs.block.lasts_of.Goals as goal

pub overflow_cast-candidate : goal.overflow_cast-candidate
overflow_cast-candidate c =
    omega (
      arith,
      c.loop-candidate-test.true,
      c.requires.places,
      c.stands.ensures.small.candidates,
      ap (λ (r : MarketRows). length r.lists) c.market.ensures,
    )

pub loop-candidate-preserved : goal.loop-candidate-preserved
loop-candidate-preserved c =
    let k : ℕ = c.loop-candidate.candidate in
    lasts_more c.args.market.now c.args.places.now k c.loop-candidate.lasts.items c.note_last.new.lasts.items
    (place_of c.args.places.now k) refl
    (λ p e. c.requires.within k p e) c.loop-candidate.invariant c.note_last.ensures

pub loop-candidate-init : goal.loop-candidate-init
loop-candidate-init c =
    lasts_none c.args.market.now c.args.places.now c.in_ok-lasts.lasts.items
    (c.in_ok-lasts.ensures.items_if_clones_equal (λ y e. e)
    ∙ ap (λ (n : ℕ). replicate n 0) (c.programmes.ensures ∙ ap (λ (r : MarketRows). length r.orders)
    c.market-2.ensures))

pub note_last-requires-clause-candidate : goal.note_last-requires-clause-candidate
note_last-requires-clause-candidate c = omega (arith, c.loop-candidate-test.true, c.requires.places)

pub note_last-requires-clause-within : goal.note_last-requires-clause-within
note_last-requires-clause-within c = c.requires.within c.loop-candidate.candidate

pub note_last-requires-clause-lasts : goal.note_last-requires-clause-lasts
note_last-requires-clause-lasts c = c.loop-candidate.invariant.one_each

pub returns : goal.returns
returns c =
    lasts_all c.args.market.now c.loop-candidate.candidate c.args.places.now c.loop-candidate.lasts.items
    (omega (arith, c.loop-candidate-test.false, c.loop-candidate.auto.candidate-end)) c.loop-candidate.invariant

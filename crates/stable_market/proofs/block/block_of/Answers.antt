use Rattle.std.proofs.Common.{◌∙◌, sym, ap, arith, refl}
use Rattle.markets.specs.Markets.{MarketRows, list_of}
use Rattle.markets.specs.Matchings.{place_of}
use Rattle.stable_market.proofs.Blocking.{block_stops, block_found, block_ends}
use Rattle.stable_market.proofs.block.block_of.Goals as goal

pub returns-then-is_at : goal.returns-then-is_at
returns-then-is_at c =
    block_stops c.args.market.now c.args.places.now c.args.candidate (place_of c.args.places.now c.args.candidate)
    c.list-programme-items.result.now c.loop-programme.programme-index
    (c.list-programme-items.ensures.list ∙ ap (λ (r : MarketRows). list_of r c.args.candidate) c.market.ensures) refl
    c.loop-programme-test.true (sym c.is_at.ensures ∙ c.if-is_at.true) c.loop-programme.invariant

pub returns-then-would_take : goal.returns-then-would_take
returns-then-would_take c =
    block_found c.args.market.now c.args.places.now c.args.candidate (place_of c.args.places.now c.args.candidate)
    c.list-programme-items.result.now c.loop-programme.programme-index
    (c.list-programme-items.ensures.list ∙ ap (λ (r : MarketRows). list_of r c.args.candidate) c.market.ensures) refl
    c.loop-programme-test.true (sym c.is_at.ensures ∙ c.if-is_at.false)
    (sym c.would_take.ensures ∙ c.if-would_take.true)
    c.loop-programme.invariant

pub returns : goal.returns
returns c =
    block_ends c.args.market.now c.args.places.now c.args.candidate (place_of c.args.places.now c.args.candidate)
    c.list-programme-items.result.now c.loop-programme.programme-index
    (c.list-programme-items.ensures.list ∙ ap (λ (r : MarketRows). list_of r c.args.candidate) c.market.ensures) refl
    (omega (arith, c.loop-programme-test.false)) c.loop-programme.invariant

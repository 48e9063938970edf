use Rattle.std.proofs.Common.{ℕ, List, Option, ◌∙◌, ap, subst, sym}
use Rattle.admit_core.proofs.Plain.{on_err}
use Rattle.admit_core.specs.Falls.{FallingSystem}
use Rattle.bar_fixpoint.proofs.RunLaws.{none_told}
use Rattle.markets.specs.Bars.{market_system}
use Rattle.markets.specs.Matchings.{IsBestForAll, IsStable}
use Rattle.markets.specs.Placed.{ArePlacedInAll}
use Rattle.markets.proofs.Led.{greatest_here, led, some_told}
use Rattle.markets.proofs.solution.solve.Goals as goal

pub returns-clause-led : goal.returns-clause-led
returns-clause-led g c =
    led _ (market_system c.args.market.now) _ _ _ _ _ c.in_ok-round.ensures.system c.in_ok-settle.ensures.run
    c.solved_by.ensures.bars

pub returns-in_err-round-clause-told_by_then : goal.returns-in_err-round-clause-told_by_then
returns-in_err-round-clause-told_by_then g c =
    on_err c.from_residual.result (none_told (market_system c.args.market.now) _ _)

pub returns-in_err-settle-clause-told_by_then : goal.returns-in_err-settle-clause-told_by_then
returns-in_err-settle-clause-told_by_then g c =
    on_err c.from_residual-in_err-settle.result
    (some_told _ (market_system c.args.market.now) _ _ _ _ c.in_ok-round.ensures.system
    c.in_err-settle.ensures.stops.told_by_then)

pub settle-requires : goal.settle-requires
settle-requires g c =
    c.in_ok-round.ensures.bars ∙ ap (λ (s : FallingSystem). s.ceilings) (sym c.in_ok-round.ensures.system)

pub solved_by-requires : goal.solved_by-requires
solved_by-requires g c = c.in_ok-settle.ensures.unchanged.offers ∙ c.in_ok-round.ensures.offers

pub returns-clause-greatest : goal.returns-clause-greatest
returns-clause-greatest g c =
    greatest_here _ (market_system c.args.market.now) _ _ c.in_ok-round.ensures.system c.in_ok-settle.ensures.greatest
    c.solved_by.ensures.bars

pub returns-clause-stable : goal.returns-clause-stable
returns-clause-stable g c =
    let m = c.args.market.now in
    let P : List (Option ℕ) → Type 0 = IsStable m in
    subst P (sym c.solved_by.ensures.places) (c.laws_of_markets.ensures.stable m _ c.stands.ensures.market
    (returns-clause-greatest g c))

pub returns-clause-best : goal.returns-clause-best
returns-clause-best g c =
    let m = c.args.market.now in
    let P : List (Option ℕ) → Type 0 = IsBestForAll m in
    subst P (sym c.solved_by.ensures.places) (c.laws_of_markets.ensures.best m _ c.stands.ensures.market
    (returns-clause-greatest g c))

pub returns-clause-placed : goal.returns-clause-placed
returns-clause-placed g c =
    let m = c.args.market.now in
    let P : List (Option ℕ) → Type 0 = ArePlacedInAll m in
    subst P (sym c.solved_by.ensures.places) (c.laws_of_markets.ensures.placed m _ c.stands.ensures.market
    (returns-clause-greatest g c))

use Rattle.std.proofs.Common.{ℕ, List, ◌<◌, length, subst, sym, ap, arith}
use Rattle.std.specs.Prelude.{All}
use Rattle.markets.specs.Markets.{MarketRows, IsSmallMarket}
use Rattle.markets.proofs.Reading.{order_within, order_short, read_order}
use Rattle.markets.proofs.market.Market.order.Goals as goal

pub returns-clause-within : goal.returns-clause-within
returns-clause-within c =
    let P : MarketRows → Type 0 = IsSmallMarket in
    let small = subst P c.self.view_is c.self.invariant in
    let m : MarketRows = c.args.self.now in
    let Q : List ℕ → Type 0 = All (λ x. x < length m.lists) in
    let read = read_order _ m c.args.programme c.index.result.now c.as_slice.result.now c.self.view_is c.requires
    c.index.ensures
    c.as_slice.ensures in
    subst Q (sym read) (order_within m small.valid c.args.programme c.requires)

pub returns-clause-short : goal.returns-clause-short
returns-clause-short c =
    let P : MarketRows → Type 0 = IsSmallMarket in
    let small = subst P c.self.view_is c.self.invariant in
    let m : MarketRows = c.args.self.now in
    let read = read_order _ m c.args.programme c.index.result.now c.as_slice.result.now c.self.view_is c.requires
    c.index.ensures
    c.as_slice.ensures in
    omega (arith, ap length read, order_short m small.valid c.args.programme c.requires, small.small.candidates)

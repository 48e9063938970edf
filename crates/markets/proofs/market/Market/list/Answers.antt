use Rattle.std.proofs.Common.{ℕ, List, ◌<◌, length, subst, sym, ap, arith}
use Rattle.std.specs.Prelude.{All}
use Rattle.markets.specs.Markets.{MarketRows, IsSmallMarket}
use Rattle.markets.proofs.Reading.{list_within, list_short, read_list}
use Rattle.markets.proofs.market.Market.list.Goals as goal

pub returns-clause-within : goal.returns-clause-within
returns-clause-within c =
    let P : MarketRows → Type 0 = IsSmallMarket in
    let small = subst P c.self.view_is c.self.invariant in
    let m : MarketRows = c.args.self.now in
    let Q : List ℕ → Type 0 = All (λ p. p < length m.orders) in
    let read = read_list _ m c.args.candidate c.index.result.now c.as_slice.result.now c.self.view_is c.requires
    c.index.ensures
    c.as_slice.ensures in
    subst Q (sym read) (list_within m small.valid c.args.candidate c.requires)

pub returns-clause-short_list : goal.returns-clause-short_list
returns-clause-short_list c =
    let P : MarketRows → Type 0 = IsSmallMarket in
    let small = subst P c.self.view_is c.self.invariant in
    let m : MarketRows = c.args.self.now in
    let read = read_list _ m c.args.candidate c.index.result.now c.as_slice.result.now c.self.view_is c.requires
    c.index.ensures
    c.as_slice.ensures in
    omega (arith, ap length read, list_short m small.valid c.args.candidate c.requires, small.small.programmes)

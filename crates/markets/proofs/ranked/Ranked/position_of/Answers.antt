use Rattle.std.proofs.Common.{ℕ, List, ◌<◌, ◌+◌, ◌∙◌, sym, ap, arith, length}
use Rattle.markets.specs.Markets.{MarketRows, market_position}
use Rattle.markets.proofs.Ranking.{own_ranks, ranked_none, ranked_some, ranks_rise}
use Rattle.markets.proofs.ranked.Ranked.position_of.Goals as goal

pub position_in-requires : goal.position_in-requires
position_in-requires c =
    let m = c.self.inside.market.now in
    let x : ℕ = c.args.candidate in
    let x_lt : x < length m.lists = omega
    (arith, c.requires.candidate, ap (λ (r : MarketRows). length r.lists) c.self.view_is) in
    ranks_rise m x c.deref.result.now
    (own_ranks m x c.self.inside.ranks.items c.index.result.now c.deref.result.now x_lt c.self.invariant c.index.ensures
    c.deref.ensures.value)

pub returns-in-Some : goal.returns-in-Some
returns-in-Some c =
    let m = c.self.inside.market.now in
    let p : ℕ = c.args.programme in
    let x : ℕ = c.args.candidate in
    let x_lt : x < length m.lists = omega
    (arith, c.requires.candidate, ap (λ (r : MarketRows). length r.lists) c.self.view_is) in
    ranked_some m x p c.in-Some.position c.deref.result.now
    (own_ranks m x c.self.inside.ranks.items c.index.result.now c.deref.result.now x_lt c.self.invariant c.index.ensures
    c.deref.ensures.value)
    (sym c.position_in.ensures ∙ c.in-Some.is)
    ∙ ap (λ (r : MarketRows). market_position r p x) c.self.view_is

pub returns-in-None : goal.returns-in-None
returns-in-None c =
    let m = c.self.inside.market.now in
    let p : ℕ = c.args.programme in
    let x : ℕ = c.args.candidate in
    let x_lt : x < length m.lists = omega
    (arith, c.requires.candidate, ap (λ (r : MarketRows). length r.lists) c.self.view_is) in
    let p_lt : p < length m.orders = omega
    (arith, c.requires.programme, ap (λ (r : MarketRows). length r.orders) c.self.view_is) in
    ap (λ (xs : List ℕ). length xs + 1) c.order.ensures.order
    ∙ sym (ranked_none m x p c.deref.result.now p_lt
    (own_ranks m x c.self.inside.ranks.items c.index.result.now c.deref.result.now x_lt c.self.invariant c.index.ensures
    c.deref.ensures.value)
    (sym c.position_in.ensures ∙ c.in-None.is))
    ∙ ap (λ (r : MarketRows). market_position r p x) c.self.view_is

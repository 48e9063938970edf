use Rattle.std.proofs.Common.{ℕ, List, ◌≡◌, ◌∙◌, sym, ap, arith, length, true, get_or}
use Rattle.std.specs.Prelude.{slice_index}
use Rattle.std.proofs.lemmas.Bool.{le-leb}
use Rattle.markets.specs.Markets.{MarketRows, list_of, market_position}
use Rattle.markets.specs.Bars.{is_within}
use Rattle.markets.proofs.Seated.{stand_from}
use Rattle.markets.proofs.standing.first_within.Goals as goal

pub returns-then-position_of-bars : goal.returns-then-position_of-bars
returns-then-position_of-bars c =
    let m = c.args.market.now in
    let bars = c.args.bars.now in
    let x : ℕ = c.args.candidate in
    let k : ℕ = c.loop-stand.stand in
    let list : List ℕ = c.list-list.result.now in
    let p : ℕ = get_or list k 0 in
    let list_is : list ≡ list_of m x = c.list-list.ensures.list ∙ ap (λ (r : MarketRows). list_of r x)
    c.market.ensures in
    let within : is_within m bars x p ≡ true = le-leb (market_position m p x) (slice_index bars p)
    (omega (arith, c.position_of.ensures, c.if-position_of-bars.true)) in
    stand_from m bars x k (omega (arith, c.loop-stand-test.true, ap length list_is)) c.loop-stand.invariant
    (λ lt. ap (λ (xs : List ℕ). is_within m bars x (get_or xs k 0)) (sym list_is) ∙ within)

pub returns : goal.returns
returns c =
    let m = c.args.market.now in
    let x : ℕ = c.args.candidate in
    let list : List ℕ = c.list-list.result.now in
    let list_is : list ≡ list_of m x = c.list-list.ensures.list ∙ ap (λ (r : MarketRows). list_of r x)
    c.market.ensures in
    stand_from m c.args.bars.now x (length list) (omega (arith, ap length list_is))
    (λ k lt. c.loop-stand.invariant k (omega (arith, lt, c.loop-stand-test.false)))
    (λ lt. absurd (omega (arith, lt, ap length list_is)))

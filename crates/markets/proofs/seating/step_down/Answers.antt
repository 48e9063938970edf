use Rattle.std.proofs.Common.{ℕ, List, ◌<◌, ◌∙◌, sym, subst, arith, length, refl}
use Rattle.std.proofs.lemmas.List.{get_or_default}
use Rattle.markets.specs.Rounds.{IsRound}
use Rattle.markets.proofs.Seated.{position_within, who_within, lowered, nobody_moves, leaving, moves_on}
use Rattle.markets.proofs.seating.step_down.Goals as goal

pub move_on-requires-clause-leaves : goal.move_on-requires-clause-leaves
move_on-requires-clause-leaves c =
    leaving c.requires.round c.args.programme c.requires.programme c.requires.above c.market.ensures
    c.order.ensures.order
    c.order.ensures.within c.index.ensures c.deref.ensures.value c.index-2.ensures
    (sym c.is_at.ensures ∙ c.if-is_at.true)

pub move_on-requires-clause-seats : goal.move_on-requires-clause-seats
move_on-requires-clause-seats c = c.requires.round.seats

pub returns-then-is_at-clause-round : goal.returns-then-is_at-clause-round
returns-then-is_at-clause-round c =
    let new = c.move_on.new.seating in
    let P : List ℕ → Type 0 = λ bs. IsRound c.args.market.now bs new.stands.items new.places.items new.filling in
    subst P c.deref.ensures.value
    (moves_on c.requires.round c.args.programme c.requires.programme c.requires.above c.market.ensures
    c.order.ensures.order
    c.order.ensures.within c.index.ensures
    c.deref.ensures.value new.stands.items new.places.items new.filling c.move_on.ensures.moved c.move_on.ensures.seats
    new.tied.counts)

pub returns-then-is_at-clause-bars : goal.returns-then-is_at-clause-bars
returns-then-is_at-clause-bars c =
    lowered c.requires.round c.args.programme c.requires.programme c.requires.above c.market.ensures
    c.order.ensures.order
    c.order.ensures.within c.index.ensures refl

pub returns-else-is_at-clause-round : goal.returns-else-is_at-clause-round
returns-else-is_at-clause-round c =
    nobody_moves c.requires.round c.args.programme c.requires.programme c.requires.above c.market.ensures
    c.order.ensures.order
    c.order.ensures.within c.index.ensures
    refl c.index-2.ensures (sym c.is_at.ensures ∙ c.if-is_at.false)

pub returns-else-is_at-clause-bars : goal.returns-else-is_at-clause-bars
returns-else-is_at-clause-bars c =
    lowered c.requires.round c.args.programme c.requires.programme c.requires.above c.market.ensures
    c.order.ensures.order
    c.order.ensures.within c.index.ensures refl

pub overflow_sub-bar : goal.overflow_sub-bar
overflow_sub-bar c =
    let bars : List ℕ = c.args.bars.now.items in
    let p : ℕ = c.args.programme in
    let p_lt : p < length bars = omega (arith, c.requires.programme, c.requires.round.seated.one_bar_each) in
    omega (arith, c.requires.above, c.index.ensures ∙ get_or_default bars p c.index.result.now 0 p_lt)

pub bounds-order-bar : goal.bounds-order-bar
bounds-order-bar c =
    position_within c.requires.round c.args.programme c.requires.programme c.requires.above c.market.ensures
    c.order.ensures.order
    c.order.ensures.within c.index.ensures

pub index-requires-2 : goal.index-requires-2
index-requires-2 c =
    let lt = who_within c.requires.round c.args.programme c.requires.programme c.requires.above c.market.ensures
    c.order.ensures.order
    c.order.ensures.within c.index.ensures in
    omega (arith, lt, c.requires.round.seated.one_place_each)

use Rattle.std.proofs.Common.{ℕ, List, ◌≡◌, ◌<◌, ◌∙◌, sym, ap, arith, length}
use Rattle.std.specs.Prelude.{slice_get, slice_index}
use Rattle.std.proofs.lemmas.List.{get_or_default, length-map}
use Rattle.markets.specs.Markets.{MarketRows}
use Rattle.markets.specs.Bars.{demanded}
use Rattle.markets.specs.Rounds.{held_to}
use Rattle.markets.proofs.Rounds.{counted_held, demanded_are_held}
use Rattle.markets.proofs.round.MarketRoundFalling.over.Goals as goal

pub first_over-requires-clause-count : goal.first_over-requires-clause-count
first_over-requires-clause-count c =
    let r = c.args.self.now in
    let i : ℕ = c.args.i in
    let bars : List ℕ = r.bars.items in
    let places = r.seating.places.items in
    let i_lt : i < length r.market.orders = omega (arith, c.requires, length-map r.market.orders length) in
    let bar_is : c.index-bar.result.now ≡ slice_index bars i = c.index-bar.ensures
    ∙ get_or_default bars i c.index-bar.result.now 0 (omega (arith, i_lt, r.round.seated.one_bar_each)) in
    counted_held r.market r.round.valid bars r.seating.stands.items places r.seating.filling r.round i i_lt
    ∙ ap (λ (b : ℕ). length (held_to r.market places i b)) (sym bar_is)
    ∙ ap (λ (m : MarketRows). length (held_to m places i c.index-bar.result.now)) (sym c.market.ensures)

pub returns-clause-over : goal.returns-clause-over
returns-clause-over c =
    let r = c.args.self.now in
    let i : ℕ = c.args.i in
    let bars : List ℕ = r.bars.items in
    let places = r.seating.places.items in
    let i_lt : i < length r.market.orders = omega (arith, c.requires, length-map r.market.orders length) in
    let bar_is : c.index-bar.result.now ≡ slice_index bars i = c.index-bar.ensures
    ∙ get_or_default bars i c.index-bar.result.now 0 (omega (arith, i_lt, r.round.seated.one_bar_each)) in
    c.first_over.ensures
    ∙ ap (λ (m : MarketRows). slice_get (held_to m places i c.index-bar.result.now)
    (slice_index r.seating.filling.seats i))
    c.market.ensures
    ∙ ap (λ (b : ℕ). slice_get (held_to r.market places i b) (slice_index r.seating.filling.seats i)) bar_is
    ∙ ap (λ (xs : List ℕ). slice_get xs (slice_index r.seating.filling.seats i))
    (sym (demanded_are_held r.market r.round.valid bars r.seating.stands.items places r.seating.filling r.round i i_lt))
    ∙ ap (λ (s : List ℕ). slice_get (demanded r.market bars i) (slice_index s i)) r.round.seats

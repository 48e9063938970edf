use Rattle.std.proofs.Common.{ℕ, List, Option, ◌≡◌, ◌<◌, ◌∙◌, sym, ap, subst, arith, length, map, filter, nat_le}
use Rattle.std.specs.Prelude.{IfOk, min, slice_index}
use Rattle.std.proofs.lemmas.List.{get_or_default, length-map}
use Rattle.markets.specs.Markets.{MarketRows, candidate_at}
use Rattle.markets.specs.Bars.{demanded}
use Rattle.markets.specs.Rounds.{held_to}
use Rattle.markets.proofs.Rounds.{demanded_upto}
use Rattle.markets.proofs.round.MarketRoundFalling.names.Goals as goal

pub returns-clause-names : goal.returns-clause-names
returns-clause-names c =
    let r = c.args.self.now in
    let i : ℕ = c.args.i in
    let bars : List ℕ = r.bars.items in
    let places = r.seating.places.items in
    let e : ℕ = c.min-end.result in
    let end_is : e ≡ min c.index.result.now c.args.upto = c.min-end.ensures in
    let i_lt : i < length r.market.orders = omega (arith, c.requires, length-map r.market.orders length) in
    let bar_is : c.index.result.now ≡ slice_index bars i = c.index.ensures
    ∙ get_or_default bars i c.index.result.now 0 (omega (arith, i_lt, r.round.seated.one_bar_each)) in
    let asked : filter (λ (h : ℕ). nat_le h c.args.upto) (demanded r.market bars i) ≡ held_to r.market places i e =
    demanded_upto r.market r.round.valid bars r.seating.stands.items places r.seating.filling r.round i i_lt c.args.upto
    e
    (omega (arith, end_is)) (omega (arith, bar_is, end_is)) (λ h past le. omega (arith, bar_is, end_is, past, le)) in
    let P : List ℕ → Type 0 = λ ks. IfOk c.names_within.result (λ v. v.items ≡ ks) in
    subst P (
    ap (λ (ps : List (Option ℕ)). map (candidate_at c.market.result.now i) (held_to c.market.result.now ps i e))
    c.deref.ensures.value
    ∙ ap (λ (m : MarketRows). map (candidate_at m i) (held_to m places i e)) c.market.ensures
    ∙ ap (map (candidate_at r.market i)) (sym asked)
    )
    c.names_within.ensures.names

pub returns-clause-always : goal.returns-clause-always
returns-clause-always c = λ none. c.names_within.ensures.always (omega (arith, none, c.min-end.ensures))

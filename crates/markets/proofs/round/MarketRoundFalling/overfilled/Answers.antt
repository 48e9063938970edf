use Rattle.std.proofs.Common.{List, ℕ, ◌≡◌, ◌∙◌, subst}
use Rattle.std.specs.Prelude.{IfOk}
use Rattle.markets.proofs.Rounds.{overfilled_are}
use Rattle.markets.proofs.round.MarketRoundFalling.overfilled.Goals as goal

pub returns-clause-places : goal.returns-clause-places
returns-clause-places c =
    let r = c.args.self.now in
    let P : List ℕ → Type 0 = λ ks. IfOk c.overfilled.result (λ v. v.items ≡ ks) in
    subst P (overfilled_are r.market r.bars.items r.seating.stands.items r.seating.places.items r.seating.filling
    r.round)
    c.overfilled.ensures.places

pub returns-clause-always : goal.returns-clause-always
returns-clause-always c =
    let r = c.args.self.now in
    λ none.
    c.overfilled.ensures.always
    (overfilled_are r.market r.bars.items r.seating.stands.items r.seating.places.items r.seating.filling r.round
    ∙ none)

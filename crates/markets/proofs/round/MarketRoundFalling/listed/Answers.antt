use Rattle.std.proofs.Common.{◌∙◌}
use Rattle.markets.proofs.Rounds.{overfilled_are}
use Rattle.markets.proofs.round.MarketRoundFalling.listed.Goals as goal

pub returns-clause-places : goal.returns-clause-places
returns-clause-places c =
    let r = c.args.self.now in
    c.listed.ensures ∙ overfilled_are r.market r.bars.items r.seating.stands.items r.seating.places.items
    r.seating.filling r.round

use Rattle.std.proofs.Common.{ap, map}
use Rattle.markets.specs.Bars.{place_code}
use Rattle.markets.proofs.Seated.{are_matched}
use Rattle.markets.proofs.round.MarketRound.into_parts.Goals as goal

pub returns-clause-places : goal.returns-clause-places
returns-clause-places c =
    let r = c.args.self in
    ap (map place_code) (are_matched r.market r.bars.items r.seating.places.items r.round.seated.one_place_each
    r.round.seated.placed)

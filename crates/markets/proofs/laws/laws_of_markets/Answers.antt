use Rattle.markets.proofs.Lawful.{market_is_lawful}
use Rattle.markets.proofs.Stable.{greatest_is_stable}
use Rattle.markets.proofs.Best.{greatest_is_best}
use Rattle.markets.proofs.SamePlaced.{placed_in_all}
use Rattle.markets.proofs.SamePlaces.{same_places}
use Rattle.markets.proofs.laws.laws_of_markets.Goals as goal

pub returns : goal.returns
returns c =
    record {
      lawful = market_is_lawful;
      stable = greatest_is_stable;
      best = greatest_is_best;
      same = same_places;
      placed = placed_in_all;
    }

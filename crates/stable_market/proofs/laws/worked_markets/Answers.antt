use Rattle.std.proofs.Common.{refl}
use Rattle.stable_market.proofs.laws.worked_markets.Goals as goal

pub returns : goal.returns
returns c =
    record {
      crossed = record { no_fall = refl; matched = refl; other_is_stable = refl; other_is_stable_for_both = refl };
      contested = record { first_demands = refl; bars = refl; settled = refl; matched = refl; blocks = refl };
      refused = record { twice = refl; out_of_range = refl; left_out = refl; not_listed = refl; both_stand = refl };
    }

use Rattle.stable_market.proofs.OneBest.{the_best_is_one}
use Rattle.markets.proofs.SamePlaced.{any_two, there_is_a_best}
use Rattle.stable_market.proofs.Truth.{truth_pays}
use Rattle.stable_market.proofs.laws.laws_of_stable_matchings.Goals as goal

pub returns : goal.returns
returns c = record { exists = there_is_a_best; one = the_best_is_one; placed = any_two; truth = truth_pays }

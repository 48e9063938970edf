use Rattle.fairness.proofs.BoardingRanks.{better_boarding_rank_costs_no_offer}
use Rattle.fairness.proofs.MovedUp.{better_position_costs_no_offer}
use Rattle.fairness.proofs.laws.laws_of_exchanges.Goals as goal

pub returns : goal.returns
returns c = record { position = better_position_costs_no_offer; boarding_rank = better_boarding_rank_costs_no_offer }

use Rattle.fairness.proofs.Better.{better_is_never_later}
use Rattle.fairness.proofs.ByRank.{kinds_by_rank, resident_scholars_by_rank}
use Rattle.fairness.proofs.laws.laws_of_places.Goals as goal

pub returns : goal.returns
returns c = record {
  kinds = kinds_by_rank;
  resident_scholars = resident_scholars_by_rank;
  better = better_is_never_later;
}

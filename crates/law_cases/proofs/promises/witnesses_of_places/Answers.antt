use Rattle.law_cases.proofs.PromiseCases.{better_is_never_later, better_is_never_later_other, calls_each_kind_by_rank}
use Rattle.law_cases.proofs.PromiseCases.{calls_resident_scholars_by_rank}
use Rattle.law_cases.proofs.promises.witnesses_of_places.Goals as goal

pub returns : goal.returns
returns c = record {
  kinds = calls_each_kind_by_rank;
  resident_scholars = calls_resident_scholars_by_rank;
  better = better_is_never_later;
  by_rank = better_is_never_later_other;
}

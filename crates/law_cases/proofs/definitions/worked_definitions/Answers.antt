use Rattle.law_cases.proofs.DefinitionCases.{freed_by_one, limit_explained, name_of_rank, one_is_answered_for}
use Rattle.law_cases.proofs.DefinitionCases.{own_answers, pickers_choose, still_over_behind, unfit_row}
use Rattle.law_cases.proofs.definitions.worked_definitions.Goals as goal

pub returns : goal.returns
returns c = record {
  names = name_of_rank;
  limit = limit_explained;
  still_over = still_over_behind;
  answered = one_is_answered_for;
  freed = freed_by_one;
  own = own_answers;
  unfit = unfit_row;
  pickers = pickers_choose;
}

use Rattle.law_cases.proofs.AnswerCases.{answers_stay_apart_here, are_own, fits_apart_here, may_exchange_here}
use Rattle.law_cases.proofs.AnswerCases.{order_is_free_here}
use Rattle.law_cases.proofs.answers.witnesses_of_answers.Goals as goal

pub returns : goal.returns
returns c = record {
  marks = answers_stay_apart_here;
  own = are_own;
  fits = fits_apart_here;
  order = order_is_free_here;
  exchange = may_exchange_here;
}

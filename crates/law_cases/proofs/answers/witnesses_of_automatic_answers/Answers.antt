use Rattle.law_cases.proofs.AnswerCases.{all_is_each_alone_here, freeing_refuses_here, may_be_exchanged_here}
use Rattle.law_cases.proofs.AnswerCases.{once_is_enough_here, own_wishes_decide_here, same_own_marks}
use Rattle.law_cases.proofs.answers.witnesses_of_automatic_answers.Goals as goal

pub returns : goal.returns
returns c = record {
  own = own_wishes_decide_here;
  marks = same_own_marks;
  exchange = may_be_exchanged_here;
  alone = all_is_each_alone_here;
  once = once_is_enough_here;
  refuses = freeing_refuses_here;
}

use Rattle.auto_answer.proofs.LawsOfAnswers.{own_wishes_decide, may_be_exchanged, all_is_each_alone}
use Rattle.auto_answer.proofs.Again.{answered_once}
use Rattle.auto_answer.proofs.Freeing.{freeing_refuses}
use Rattle.auto_answer.proofs.laws.laws_of_automatic_answers.Goals as goal

pub returns : goal.returns
returns c = record {
  own = own_wishes_decide;
  exchange = may_be_exchanged;
  alone = all_is_each_alone;
  once = λ s stamp again long. answered_once s stamp long again;
  refuses = freeing_refuses;
}

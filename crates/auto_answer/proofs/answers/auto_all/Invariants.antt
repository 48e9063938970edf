use Rattle.auto_answer.proofs.AnsweringAll.{AreAsked}
use Rattle.auto_answer.proofs.answers.auto_all.Given as goal

abbrev pub invariant-loop-place : goal.invariant-loop-place
invariant-loop-place l = AreAsked l.fn.state l.state l.stamp l.place l.all

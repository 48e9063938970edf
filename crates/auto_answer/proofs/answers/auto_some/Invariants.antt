use Rattle.auto_answer.proofs.NewOffers.{AreAnswered, first_candidates}
use Rattle.auto_answer.proofs.answers.auto_some.Given as goal

abbrev pub invariant-loop-place : goal.invariant-loop-place
invariant-loop-place l = AreAnswered l.fn.state l.state l.stamp (first_candidates l.fn.state.dossier l.places
    l.place-index) l.all

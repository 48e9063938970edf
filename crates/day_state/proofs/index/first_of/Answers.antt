use Rattle.std.proofs.Common.{◌∙◌, arith}
use Rattle.day_state.proofs.Runs.{none_there}
use Rattle.day_state.proofs.index.first_of.Goals as goal
use Rattle.day_state.proofs.index.first_of.Goals.{else-first-order-via-else-first-order}
use Rattle.day_state.proofs.index.first_of.Goals.{else-first-order-via-then-first-order+else-candidate_at-candidate}

pub returns-else-first-order : goal.returns-else-first-order
returns-else-first-order c =
    none_there c.args.wishes.now c.args.order.now c.args.candidate c.first_not_below-first.result c.requires.rises
    c.first_not_below-first.ensures.point
    (elim c.else-first-order.branch [
      | else-first-order-via-then-first-order+else-candidate_at-candidate w ↦
          λ lt same. w.if-candidate_at-candidate.false (w.candidate_at.ensures ∙ same)
      | else-first-order-via-else-first-order w ↦ λ lt. absurd (omega (arith, lt, w.if-first-order.false))
    ])

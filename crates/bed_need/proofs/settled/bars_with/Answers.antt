use Rattle.std.proofs.Common.{ℕ, List, subst, sym}
use Rattle.std.proofs.lemmas.Result.{IfOk-weaker}
use Rattle.admit_core.specs.Boarding.{boarding}
use Rattle.admit_core.specs.Falls.{IsGreatest}
use Rattle.linked_demand.specs.Lent.{lent}
use Rattle.bed_need.proofs.Telling.{asked_found, asked_in_vain}
use Rattle.bed_need.proofs.settled.bars_with.Goals as goal

pub returns-clause-bars : goal.returns-clause-bars
returns-clause-bars g c =
    let asked = c.args.questions.now in
    let sys = boarding (lent asked.state c.args.beds.now) asked.orders c.args.ceilings.now in
    IfOk-weaker c.bars_of.result _ _
    (λ bars is. subst (λ (bs : List ℕ). IsGreatest sys bs) (sym is) c.in_ok-round.ensures.bars) c.bars_of.ensures.bars

pub returns-clause-asked : goal.returns-clause-asked
returns-clause-asked g c = asked_found c.bars_of.result c.in_ok-round.ensures.asked

pub returns-in_err-round-clause-asked : goal.returns-in_err-round-clause-asked
returns-in_err-round-clause-asked g c = asked_in_vain _ _ c.from_residual.ensures.1 c.in_err-round.ensures.asked

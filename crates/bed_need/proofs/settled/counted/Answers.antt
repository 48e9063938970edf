use Rattle.std.proofs.Common.{◌∙◌, ap, rules, subst}
use Rattle.admit_core.specs.Boarding.{boarding}
use Rattle.admit_core.specs.Falls.{FallingSystem, IsGreatest}
use Rattle.admit_core.proofs.Plain.{on_err}
use Rattle.bar_fixpoint.proofs.RunLaws.{none_told}
use Rattle.linked_demand.specs.Lent.{lent}
use Rattle.linked_demand.specs.Rounds.{bar_each}
use Rattle.round.proofs.EarlyEnds.{told_early}
use Rattle.bed_need.specs.Questions.{Questions}
use Rattle.bed_need.proofs.Telling.{run_of_settled}
use Rattle.bed_need.proofs.settled.counted.Goals as goal

pub returns-clause-system : goal.returns-clause-system
returns-clause-system g c =
    c.settle.ensures.unchanged.system
    ∙ c.in_ok-round.ensures.system
    ∙ ap (λ (q : Questions). boarding (lent q.state c.args.beds.now) q.orders c.args.ceilings.now) c.questions.view_is

pub returns-clause-bars : goal.returns-clause-bars
returns-clause-bars g c =
    let end = c.settle.new.system in
    subst (λ (sys : FallingSystem). IsGreatest sys (bar_each end.ceilings end.bars))
    (c.in_ok-round.ensures.system
    ∙ ap (λ (q : Questions). boarding (lent q.state c.args.beds.now) q.orders c.args.ceilings.now) c.questions.view_is)
    c.in_ok-settle.ensures.greatest

pub returns-clause-asked : goal.returns-clause-asked
returns-clause-asked g c = record {
  told = run_of_settled _ _ _ _ _ _ (c.in_ok-round.ensures.system
      ∙ ap (λ (q : Questions). boarding (lent q.state c.args.beds.now) q.orders c.args.ceilings.now)
      c.questions.view_is) c.in_ok-settle.ensures.run;
  falls = search rules;
  choice = search rules;
}

pub returns-in_err-round-clause-asked : goal.returns-in_err-round-clause-asked
returns-in_err-round-clause-asked g c = record {
  told = search rules;
  falls = on_err _ (none_told _ _ _);
  choice = search rules;
}

pub returns-in_err-settle-clause-asked : goal.returns-in_err-settle-clause-asked
returns-in_err-settle-clause-asked g c = record {
  told = search rules;
  falls = on_err _ (told_early _ _ _ _ _ _ (c.in_ok-round.ensures.system
      ∙ ap (λ (q : Questions). boarding (lent q.state c.args.beds.now) q.orders c.args.ceilings.now)
      c.questions.view_is) c.in_err-settle.ensures.stops.told_by_then);
  choice = search rules;
}

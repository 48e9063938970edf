use Rattle.std.proofs.Common.{◌∙◌, ap}
use Rattle.std.proofs.lemmas.Result.{IfOk-weaker}
use Rattle.admit_core.specs.Boarding.{boarding}
use Rattle.admit_core.specs.Proposals.{proposed}
use Rattle.admit_core.specs.State.{State}
use Rattle.linked_demand.specs.Rounds.{Round}
use Rattle.linked_demand.proofs.Lent.{lent_these}
use Rattle.linked_demand.proofs.round.LinkedRound.build.Goals as goal

pub returns-clause-round : goal.returns-clause-round
returns-clause-round c =
    let seen : State → Round = λ s. record {
      state = s;
      orders = c.args.orders.now.orders;
      ceilings = c.args.ceilings.now;
      bars = c.args.ceilings.now;
    } in
    IfOk-weaker c.build_with.result _ _
    (λ r is. is ∙ ap seen (lent_these c.args.state.now c.in_ok-beds.beds.items c.in_ok-beds.ensures))
    c.build_with.ensures.round

pub returns-clause-system : goal.returns-clause-system
returns-clause-system c =
    IfOk-weaker c.build_with.result _ _
    (λ r is. ap (λ (v : Round). boarding v.state v.orders v.ceilings) is
    ∙ ap (λ (s : State). boarding s c.args.orders.now.orders c.args.ceilings.now)
    (lent_these c.args.state.now c.in_ok-beds.beds.items c.in_ok-beds.ensures)) c.build_with.ensures.round

pub returns-clause-offers : goal.returns-clause-offers
returns-clause-offers c =
    IfOk-weaker c.build_with.result _ _
    (λ r is. ap (λ (v : Round). proposed v.state v.orders) is
    ∙ ap (λ (s : State). proposed s c.args.orders.now.orders)
    (lent_these c.args.state.now c.in_ok-beds.beds.items c.in_ok-beds.ensures)) c.build_with.ensures.round

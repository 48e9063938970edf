use Rattle.std.proofs.Common.{◌≡◌, IfOk, ap, rules}
use Rattle.std.proofs.lemmas.Result.{IfOk-weaker}
use Rattle.admit_core.specs.Boarding.{boarding}
use Rattle.linked_demand.specs.Lent.{lent}
use Rattle.linked_demand.specs.Rounds.{Round}
use Rattle.linked_demand.proofs.roster.Roster.begin_round_with.Goals as goal

pub returns-clause-system : goal.returns-clause-system
returns-clause-system c =
    let seen : Round = record {
      state = lent c.args.state.now c.args.beds.now;
      orders = c.args.self.now.orders;
      ceilings = c.args.ceilings.now;
      bars = c.args.ceilings.now;
    } in
    let right : IfOk c.build_with.result (λ r. r ≡ seen) = search rules in
    IfOk-weaker c.build_with.result _ _ (λ r is. ap (λ (v : Round). boarding v.state v.orders v.ceilings) is) right

use Rattle.std.proofs.Common.{◌∙◌, ap}
use Rattle.admit_core.specs.Boarding.{boarding}
use Rattle.admit_core.specs.Chains.{first_overfilled}
use Rattle.admit_core.specs.State.{State}
use Rattle.linked_demand.specs.Rounds.{Round}
use Rattle.certificate.proofs.pass_test.PassTest.first_overfilled.Goals as goal

pub first_overfilled-requires : goal.first_overfilled-requires
first_overfilled-requires c = record { bars = c.self.invariant.under.as_many }

pub returns : goal.returns
returns c =
    let r = c.self.inside.round in
    c.first_overfilled.ensures
    ∙ ap (λ (s : State). first_overfilled (boarding s r.orders r.ceilings) r.bars) c.self.invariant.same
    ∙ ap (λ (x : Round). first_overfilled (boarding x.state x.orders x.ceilings) x.bars) c.self.view_is

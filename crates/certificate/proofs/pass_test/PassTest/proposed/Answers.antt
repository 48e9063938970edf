use Rattle.std.proofs.Common.{◌≡◌, ◌∙◌, IfOk, List, ap, subst, ℕ}
use Rattle.admit_core.specs.Proposals.{proposed}
use Rattle.admit_core.specs.State.{State}
use Rattle.linked_demand.specs.Rounds.{Round}
use Rattle.certificate.proofs.pass_test.PassTest.proposed.Goals as goal

pub returns : goal.returns
returns c =
    let r = c.self.inside.round in
    subst (λ (places : List ℕ). IfOk c.proposed.result (λ v. v.items ≡ places))
    (ap (λ (s : State). proposed s r.orders r.bars) c.self.invariant.same
    ∙ ap (λ (x : Round). proposed x.state x.orders x.bars) c.self.view_is)
    c.proposed.ensures.places

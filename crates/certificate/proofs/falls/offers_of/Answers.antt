use Rattle.std.proofs.Common.{subst}
use Rattle.std.specs.Prelude.{◌≡◌, IfOk}
use Rattle.admit_core.specs.Chains.{bars_by, pass_fault}
use Rattle.admit_core.specs.Proposals.{proposed}
use Rattle.linked_demand.specs.Rounds.{Round}
use Rattle.certificate.specs.Checked.{Finds}
use Rattle.certificate.proofs.falls.offers_of.Goals as goal

pub returns-clause-found : goal.returns-clause-found
returns-clause-found c =
    let pass = c.args.pass.now in
    subst (λ (r : Round). Finds c.counted_offers.result (pass_fault r.state r.orders r.ceilings pass))
    c.in_ok-test.ensures c.counted_offers.ensures.found

pub returns-clause-offers : goal.returns-clause-offers
returns-clause-offers c =
    let falls = c.args.pass.now.falls in
    subst (λ (r : Round). IfOk c.counted_offers.result (λ v.
    v.items ≡ proposed r.state r.orders (bars_by r.state r.ceilings falls)))
    c.in_ok-test.ensures c.counted_offers.ensures.offers

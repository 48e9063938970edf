use Rattle.std.proofs.Common.{◌∙◌, subst}
use Rattle.admit_core.specs.DossierRows.{DossierRows}
use Rattle.admit_core.specs.Validity.{IsValid}
use Rattle.explanations.proofs.OrderLengths.{few_called}
use Rattle.explanations.proofs.closing.Closing.order_of.Goals as goal

pub returns-clause-few : goal.returns-clause-few
returns-clause-few c =
    let o = c.self.inside.opening.now in
    let P : DossierRows → Type 0 = IsValid in
    let valid = subst P (c.dossier.view_is ∙ c.dossier-dossier.ensures) c.dossier.invariant in
    rw c.order_of.ensures (few_called o.dossier c.self.inside.orders.now.orders valid c.self.invariant.called
    c.args.programme)

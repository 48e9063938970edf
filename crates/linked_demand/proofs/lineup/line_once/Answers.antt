use Rattle.std.proofs.Common.{arith, subst, ◌∙◌}
use Rattle.admit_core.specs.DossierRows.{DossierRows}
use Rattle.admit_core.specs.Validity.{IsValid}
use Rattle.linked_demand.proofs.Lined.{few_called, line_once}
use Rattle.linked_demand.proofs.Seating.{called_once}
use Rattle.linked_demand.proofs.lineup.line_once.Goals as goal

pub returns-clause-once : goal.returns-clause-once
returns-clause-once c =
    let P : DossierRows → Type 0 = IsValid in
    let d = c.args.state.now.dossier in
    let orders = c.args.orders.now.orders in
    let valid = subst P (c.dossier.view_is ∙ c.dossier-dossier.ensures) c.dossier.invariant in
    λ p. line_once d orders p (called_once d valid orders c.requires p)

pub returns-clause-few : goal.returns-clause-few
returns-clause-few c =
    let P : DossierRows → Type 0 = IsValid in
    let d = c.args.state.now.dossier in
    let orders = c.args.orders.now.orders in
    let valid = subst P (c.dossier.view_is ∙ c.dossier-dossier.ensures) c.dossier.invariant in
    λ p. omega (
      arith,
      few_called d orders p
          (line_once d orders p (called_once d valid orders c.requires p)),
      valid.size.wishes,
    )

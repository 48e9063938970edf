use Rattle.std.proofs.Common.{subst, ◌∙◌}
use Rattle.admit_core.specs.DossierRows.{DossierRows}
use Rattle.admit_core.specs.Validity.{IsValid}
use Rattle.linked_demand.proofs.Seating.{once_at}
use Rattle.linked_demand.proofs.calling.call_once.Goals as goal

pub returns : goal.returns
returns c =
    let P : DossierRows → Type 0 = IsValid in
    let valid = subst P (c.dossier.view_is ∙ c.dossier-dossier.ensures) c.dossier.invariant in
    once_at c.args.state.now.dossier.groups c.args.orders.now.orders valid.groups c.requires

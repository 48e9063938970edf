use Rattle.std.proofs.Common.{subst, ◌∙◌}
use Rattle.admit_core.specs.DossierRows.{DossierRows}
use Rattle.admit_core.specs.Validity.{IsValid}
use Rattle.proposals.proofs.Calling.{all_called}
use Rattle.proposals.proofs.called.call_everyone.Goals as goal

pub returns : goal.returns
returns c =
    let P : DossierRows → Type 0 = IsValid in
    all_called c.args.state.now.dossier (subst P (c.dossier.view_is ∙ c.dossier-dossier.ensures) c.dossier.invariant)
    c.args.orders.now.orders c.requires

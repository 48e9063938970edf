use Rattle.std.proofs.Common.{length, subst, ◌∙◌, ap, arith}
use Rattle.admit_core.specs.DossierRows.{DossierRows}
use Rattle.admit_core.specs.Validity.{IsValid}
use Rattle.day_state.proofs.Change.{wish_valid}
use Rattle.proposals.proofs.called.programme_count.Goals as goal

pub returns-clause-each : goal.returns-clause-each
returns-clause-each c =
    let P : DossierRows → Type 0 = IsValid in
    let is = c.dossier.view_is ∙ c.dossier-dossier.ensures in
    let valid = subst P is c.dossier.invariant in
    let programmes = λ (d : DossierRows). length d.programmes in
    λ k lt. omega (arith, (wish_valid c.args.state.now.dossier valid k lt).programme, c.len.ensures, ap programmes is)

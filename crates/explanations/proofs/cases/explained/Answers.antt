use Rattle.std.proofs.Common.{◌≡◌, ◌∙◌, length, subst}
use Rattle.admit_core.specs.DossierRows.{DossierRows}
use Rattle.admit_core.specs.Explanations.{LastPass}
use Rattle.admit_core.specs.Validity.{IsValid}
use Rattle.explanations.proofs.WhatIsSaid.{explains_so}
use Rattle.explanations.proofs.cases.explained.Goals as goal

pub returns : goal.returns
returns c =
    let P : DossierRows → Type 0 = IsValid in
    let valid = subst P (c.dossier.view_is ∙ c.dossier-dossier.ensures) c.dossier.invariant in
    let Q : LastPass → Type 0 = λ l. length l.opening.marks ≡ length l.opening.dossier.wishes in
    let long = subst Q c.last.view_is (rw c.marks.ensures.marks at c.marks.ensures.one_each) in
    explains_so c.args.last.now c.args.evening.now c.requires.last valid long c.args.wish
    c.requires.wish c.mark_at.result c.case_of.result c.mark_at.ensures c.case_of.ensures

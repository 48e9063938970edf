use Rattle.std.proofs.Common.{◌∙◌, ap, subst, List, ℕ, length}
use Rattle.std.proofs.lemmas.List.{length-map}
use Rattle.admit_core.specs.declared.dossier.School.{School}
use Rattle.admit_core.specs.DossierRows.{DossierRows}
use Rattle.admit_core.specs.Validity.{IsValid}
use Rattle.desk_day.proofs.LatestCeilings.{ceilings_changed, schools_in}
use Rattle.desk_day.proofs.LastBars.{length-ceilings_of}
use Rattle.desk_day.proofs.ceilings.ceilings_on.Goals as goal

pub apply_changes-requires : goal.apply_changes-requires
apply_changes-requires c =
    let valid : IsValid c.args.dossier.now = subst IsValid c.dossier.view_is c.dossier.invariant in
    let changes = c.as_slice.ensures ∙ ap (λ (d : DossierRows). d.ceilings) c.dossier.view_is in
    rw (changes, c.in_ok-ceilings.ensures.own, length-map c.args.dossier.now.schools (λ (s : School). s.ceiling))
    (schools_in c.args.dossier.now valid)

pub returns-clause-ceilings : goal.returns-clause-ceilings
returns-clause-ceilings c =
    let valid : IsValid c.args.dossier.now = subst IsValid c.dossier.view_is c.dossier.invariant in
    let changes = c.as_slice.ensures ∙ ap (λ (d : DossierRows). d.ceilings) c.dossier.view_is in
    c.apply_changes.ensures ∙ rw (changes, c.in_ok-ceilings.ensures.own) (ceilings_changed c.args.dossier.now c.args.day
    valid)

pub returns-clause-one_each : goal.returns-clause-one_each
returns-clause-one_each c =
    let valid : IsValid c.args.dossier.now = subst IsValid c.dossier.view_is c.dossier.invariant in
    let changes = c.as_slice.ensures ∙ ap (λ (d : DossierRows). d.ceilings) c.dossier.view_is in
    let are = c.apply_changes.ensures ∙ rw (changes, c.in_ok-ceilings.ensures.own)
    (ceilings_changed c.args.dossier.now c.args.day valid) in
    ap (λ (l : List ℕ). length l) are ∙ length-ceilings_of c.args.dossier.now c.args.day

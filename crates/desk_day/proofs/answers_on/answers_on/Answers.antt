use Rattle.std.proofs.Common.{◌≡◌, ◌∙◌, ap, subst}
use Rattle.admit_core.specs.declared.dossier.Answer.{Answer}
use Rattle.admit_core.specs.DossierRows.{DossierRows}
use Rattle.admit_core.specs.Validity.{IsValid}
use Rattle.day_state.proofs.Ordering.{between_order}
use Rattle.desk_day.proofs.DaysAnswers.{answers_found, by_day}
use Rattle.desk_day.proofs.answers_on.answers_on.Goals as goal

pub first_not_before-first-requires : goal.first_not_before-first-requires
first_not_before-first-requires c =
    let valid : IsValid c.args.dossier.now = subst IsValid c.dossier.view_is c.dossier.invariant in
    let all : c.as_slice-all.result.now ≡ c.args.dossier.now.answers = c.as_slice-all.ensures
    ∙ ap (λ (d : DossierRows). d.answers) c.dossier.view_is in
    rw all (by_day c.args.dossier.now valid)

pub first_after-end-requires : goal.first_after-end-requires
first_after-end-requires c =
    let valid : IsValid c.args.dossier.now = subst IsValid c.dossier.view_is c.dossier.invariant in
    let all : c.as_slice-all.result.now ≡ c.args.dossier.now.answers = c.as_slice-all.ensures
    ∙ ap (λ (d : DossierRows). d.answers) c.dossier.view_is in
    rw all (by_day c.args.dossier.now valid)

pub between-requires-clause-rises : goal.between-requires-clause-rises
between-requires-clause-rises c =
    between_order (λ (a : Answer). a.day) c.as_slice-all.result.now c.args.day c.first_not_before-first.result
    c.first_after-end.result c.first_not_before-first.ensures.within c.first_not_before-first.ensures.point
    c.first_after-end.ensures.point

pub returns : goal.returns
returns c =
    let valid : IsValid c.args.dossier.now = subst IsValid c.dossier.view_is c.dossier.invariant in
    let all : c.as_slice-all.result.now ≡ c.args.dossier.now.answers = c.as_slice-all.ensures
    ∙ ap (λ (d : DossierRows). d.answers) c.dossier.view_is in
    rw (c.between.ensures, all) (answers_found c.args.dossier.now c.args.day c.first_not_before-first.result
    c.first_after-end.result valid
    (rw all at c.first_not_before-first.ensures.within) (rw all at c.first_after-end.ensures.within)
    (rw all at c.first_not_before-first.ensures.point) (rw all at c.first_after-end.ensures.point))

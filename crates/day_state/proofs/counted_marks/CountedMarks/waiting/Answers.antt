use Rattle.std.proofs.Common.{List, ◌∙◌, ap, length, replicate, subst, sym}
use Rattle.admit_core.specs.declared.dossier.Wish.{Wish}
use Rattle.admit_core.specs.DossierRows.{DossierRows}
use Rattle.admit_core.specs.Validity.{IsValid}
use Rattle.day_state.specs.declared.bundles.Sites.TheVariants.{Programmes, Schools}
use Rattle.day_state.specs.Bundles.{AreLaters, bundles_of}
use Rattle.day_state.specs.Kept.{IsIndex, state_of, waiting_mark}
use Rattle.day_state.proofs.Bundled.{few_wishes, keeps_waiting, programme_in, school_in}
use Rattle.day_state.proofs.counted_marks.CountedMarks.waiting.Goals as goal

pub laters_of-requires : goal.laters_of-requires
laters_of-requires c =
    let wishes = c.as_slice-wishes.ensures ∙ ap (λ (d : DossierRows). d.wishes) c.dossier.view_is in
    let valid = subst IsValid c.dossier.view_is c.dossier.invariant in
    record {
      order = subst (λ (ws : List Wish). IsIndex ws c.args.order.now) (sym wishes) c.requires;
      programmes = programme_in c.args.dossier.now c.as_slice-wishes.result.now wishes valid
          (c.len-programmes.ensures ∙ ap (λ (d : DossierRows). length d.programmes) c.dossier.view_is);
      schools = school_in c.args.dossier.now c.as_slice-wishes.result.now wishes valid
          (c.len-schools.ensures ∙ ap (λ (d : DossierRows). length d.schools) c.dossier.view_is);
    }

pub build-requires : goal.build-requires
build-requires c =
    let few = few_wishes c.args.dossier.now c.as_slice-wishes.result.now
    (c.as_slice-wishes.ensures ∙ ap (λ (d : DossierRows). d.wishes) c.dossier.view_is)
    (subst IsValid c.dossier.view_is c.dossier.invariant) in
    record {
      few = few;
      laters = subst (AreLaters (bundles_of Programmes c.as_slice-wishes.result.now))
          (sym c.as_slice-by_programme.ensures.value) c.in_ok-laters.ensures.programmes;
    }

pub build-requires-2 : goal.build-requires-2
build-requires-2 c =
    let few = few_wishes c.args.dossier.now c.as_slice-wishes.result.now
    (c.as_slice-wishes.ensures ∙ ap (λ (d : DossierRows). d.wishes) c.dossier.view_is)
    (subst IsValid c.dossier.view_is c.dossier.invariant) in
    record {
      few = few;
      laters = subst (AreLaters (bundles_of Schools c.as_slice-wishes.result.now))
          (sym c.as_slice-by_school.ensures.value) c.in_ok-laters.ensures.schools;
    }

pub invariant_of-result : goal.invariant_of-result
invariant_of-result c =
    keeps_waiting c.args.dossier.now c.as_slice-wishes.result.now
    (c.as_slice-wishes.ensures ∙ ap (λ (d : DossierRows). d.wishes) c.dossier.view_is)
    (c.len-programmes.ensures ∙ ap (λ (d : DossierRows). length d.programmes) c.dossier.view_is)
    (c.len-schools.ensures ∙ ap (λ (d : DossierRows). length d.schools) c.dossier.view_is)
    c.in_ok-marks.ensures c.in_ok-seats.ensures c.in_ok-beds.ensures c.in_ok-in_programmes.ensures.numbers
    c.in_ok-in_programmes.ensures.live c.in_ok-in_schools.ensures.numbers c.in_ok-in_schools.ensures.live

pub returns : goal.returns
returns c =
    let wishes = c.as_slice-wishes.ensures ∙ ap (λ (d : DossierRows). d.wishes) c.dossier.view_is in
    ap (state_of c.args.dossier.now)
    (c.in_ok-marks.ensures ∙ ap (λ (ws : List Wish). replicate (length ws) waiting_mark) wishes)

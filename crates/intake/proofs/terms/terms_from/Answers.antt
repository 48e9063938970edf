use Rattle.std.proofs.Common.{◌≡◌, ◌∙◌, ap, length, map, subst}
use Rattle.std.specs.Prelude.{zip}
use Rattle.admit_core.specs.DossierRows.{DossierRows}
use Rattle.admit_core.specs.Validity.{IsValid}
use Rattle.intake.proofs.DatedOffers.{one_day_each}
use Rattle.intake.specs.Dated.{offer_since}
use Rattle.intake.proofs.terms.terms_from.Goals as goal

pub returns-clause-one_each : goal.returns-clause-one_each
returns-clause-one_each c =
    let d : DossierRows = c.args.dossier.now in
    let dates = c.args.dates.now in
    let valid : IsValid d = subst IsValid c.dossier.view_is c.dossier.invariant in
    let lent : c.as_slice-statuses.result.now ≡ d.statuses =
    c.as_slice-statuses.ensures ∙ ap (λ (e : DossierRows). e.statuses) c.dossier.view_is in
    ap length (c.from_vec.ensures ∙ c.in_ok-days_before.ensures
    ∙ ap (λ statuses. map (offer_since c.args.deadlines.start) (zip statuses dates)) lent)
    ∙ one_day_each d dates c.args.deadlines valid c.requires

use Rattle.intake.proofs.DatedOffers.{dated_some}
use Rattle.intake.proofs.terms.dated_terms.Goals as goal

pub returns-in_ok-terms_from-in-Some-clause-dates : goal.returns-in_ok-terms_from-in-Some-clause-dates
returns-in_ok-terms_from-in-Some-clause-dates c =
    dated_some c.args.input.now.dossier c.args.input.now.dates c.args.deadlines c.in-Some.deadlines
    c.in_ok-terms_from-in-Some.field-0 c.in_ok-terms_from-in-Some.ensures.one_each c.in-Some.is c.requires
    c.in_ok-terms_from-in-Some.ensures.value

use Rattle.std.proofs.Common.{ap}
use Rattle.bed_need.specs.Growing.{with_n_beds}
use Rattle.bed_need.specs.Questions.{Questions}
use Rattle.bed_need.proofs.Telling.{asked_along, asked_named, asked_nobody}
use Rattle.bed_need.proofs.need.least_beds.Goals as goal

pub returns-in_err-roster-clause-asked : goal.returns-in_err-roster-clause-asked
returns-in_err-roster-clause-asked g c = asked_nobody _ c.from_residual.result _ _ _ c.from_residual.ensures.1

pub returns-clause-asked : goal.returns-clause-asked
returns-clause-asked g c =
    let asked = asked_along _ _ _ _ c.along-questions.ensures c.in_ok-roster.ensures in
    asked_named _ _ c.least_beds.result _ _ _ _
    (ap (λ (q : Questions). with_n_beds q.state q.orders c.args.ceilings.now c.args.school 2000000000) asked)
    c.least_beds.ensures.asked

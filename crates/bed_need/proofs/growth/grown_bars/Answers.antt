use Rattle.std.proofs.Common.{IfOk, ap, subst}
use Rattle.admit_core.specs.Boarding.{boarding}
use Rattle.bed_need.specs.Growing.{IsGrowth, with_more_beds}
use Rattle.bed_need.specs.Questions.{Questions}
use Rattle.bed_need.proofs.Telling.{asked_along, asked_neither, twice_named}
use Rattle.bed_need.proofs.growth.grown_bars.Goals as goal

pub returns-clause-growth : goal.returns-clause-growth
returns-clause-growth g c =
    subst (λ (q : Questions). IfOk c.grown_bars.result (λ growth.
    IsGrowth (boarding q.state q.orders c.args.low.now)
    (with_more_beds q.state q.orders c.args.high.now c.args.given.school c.args.given.beds)
    growth.before.items growth.after.items))
    (asked_along _ _ _ _ c.along-questions.ensures c.in_ok-roster.ensures) c.grown_bars.ensures.growth

pub returns-in_err-roster-clause-asked : goal.returns-in_err-roster-clause-asked
returns-in_err-roster-clause-asked g c = asked_neither _ _ _ _ c.from_residual.result _ c.from_residual.ensures.1

pub returns-clause-asked : goal.returns-clause-asked
returns-clause-asked g c =
    let asked = asked_along _ _ _ _ c.along-questions.ensures c.in_ok-roster.ensures in
    twice_named _ _ _ _ c.grown_bars.result _ _ _ _
    (ap (λ (q : Questions). boarding q.state q.orders c.args.low.now) asked)
    (ap (λ (q : Questions). with_more_beds q.state q.orders c.args.high.now c.args.given.school c.args.given.beds)
    asked)
    c.grown_bars.ensures.asked

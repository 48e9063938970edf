use Rattle.std.proofs.Common.{arith, ◌∙◌, sym}
use Rattle.linked_demand.specs.Claims.{candidates_of}
use Rattle.linked_demand.proofs.ClaimSpans.{alike_none, alike_more, alike_ends, candidate_read, many_candidates}
use Rattle.linked_demand.proofs.claims.first_above.Goals as goal

pub loop-to-init : goal.loop-to-init
loop-to-init c =
    let applications = c.args.applications.now in
    alike_none (candidates_of applications) c.args.candidate c.args.from
    (omega (arith, many_candidates applications, c.requires.begins))

pub loop-to-preserved : goal.loop-to-preserved
loop-to-preserved c =
    let applications = c.args.applications.now in
    alike_more (candidates_of applications) c.args.candidate c.args.from c.loop-to.to c.loop-to.invariant
    (omega (arith, many_candidates applications, c.loop-to-test.true))
    (candidate_read applications c.loop-to.to c.loop-to-test.true ∙ c.if-applications-to.true)

pub returns-after-loop-to-clause-point : goal.returns-after-loop-to-clause-point
returns-after-loop-to-clause-point c =
    let applications = c.args.applications.now in
    alike_ends (candidates_of applications) c.args.candidate c.args.from c.loop-to.to c.requires.rises
    c.requires.point c.loop-to.invariant
    (λ lt is. omega (arith, lt, many_candidates applications, c.loop-to-test.false))

pub returns-else-applications-to-clause-point : goal.returns-else-applications-to-clause-point
returns-else-applications-to-clause-point c =
    let applications = c.args.applications.now in
    alike_ends (candidates_of applications) c.args.candidate c.args.from c.loop-to.to c.requires.rises
    c.requires.point c.loop-to.invariant
    (λ lt is. c.if-applications-to.false (sym (candidate_read applications c.loop-to.to c.loop-to-test.true) ∙ is))

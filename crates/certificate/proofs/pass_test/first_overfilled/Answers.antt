use Rattle.std.proofs.Common.{◌∙◌, ◌<◌, length, sym, rules}
use Rattle.admit_core.specs.Boarding.{boarding}
use Rattle.admit_core.specs.Falls.{is_overfilled}
use Rattle.certificate.proofs.Testing.{none_at, one_at, over_by_rank}
use Rattle.certificate.proofs.pass_test.first_overfilled.Goals as goal

pub returns-then-is_some : goal.returns-then-is_some
returns-then-is_some c =
    let r = c.args.round.now in
    let i = c.loop-school.school in
    let lt : i < length r.ceilings = search rules in
    let passes = over_by_rank r.state r.orders r.ceilings r.bars i c.first_over.result lt
    c.first_over.ensures ∙ sym c.is_some.ensures ∙ c.if-is_some.true in
    sym (c.loop-school.invariant ∙ one_at (is_overfilled (boarding r.state r.orders r.ceilings) r.bars) i
    (length r.ceilings) lt passes)

pub loop-school-preserved : goal.loop-school-preserved
loop-school-preserved c =
    let r = c.args.round.now in
    let i = c.loop-school.school in
    let lt : i < length r.ceilings = search rules in
    let fails = over_by_rank r.state r.orders r.ceilings r.bars i c.first_over.result lt
    c.first_over.ensures ∙ sym c.is_some.ensures ∙ c.if-is_some.false in
    c.loop-school.invariant ∙ none_at (is_overfilled (boarding r.state r.orders r.ceilings) r.bars) i
    (length r.ceilings) lt fails

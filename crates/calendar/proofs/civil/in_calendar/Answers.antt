use Rattle.std.proofs.Common.{◌≡◌, ap, arith, pos, ◌+ℤ◌, ◌∙◌}
use Rattle.jiff.proofs.SpanFacts.{can_add-days, date_add-days, signed_arith}
use Rattle.calendar.proofs.JiffDates.{epoch, days_only}
use Rattle.calendar.proofs.civil.in_calendar.Goals as goal

pub add-requires : goal.add-requires
add-requires c =
    let only = days_only _ _ _ c.civil.invariant c.from.ensures c.days.ensures in
    let can = can_add-days c.date.result c.civil.inside.days c.days.result only in
    can.1 (rw (epoch c.date.result c.date.ensures) (omega (arith, signed_arith, c.civil.invariant)))

pub returns-clause-day : goal.returns-clause-day
returns-clause-day c =
    let only = days_only _ _ _ c.civil.invariant c.from.ensures c.days.ensures in
    let none : pos 0 +ℤ c.civil.inside.days ≡ c.civil.inside.days = omega (arith, signed_arith) in
    c.add.ensures ∙ date_add-days c.date.result c.civil.inside.days c.days.result only
    ∙ ap (λ n. n +ℤ c.civil.inside.days) (epoch c.date.result c.date.ensures) ∙ none ∙ c.civil.view_is

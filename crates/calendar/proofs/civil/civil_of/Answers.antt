use Rattle.std.proofs.Common.{◌∙◌, ap, arith, sym}
use Rattle.jiff.specs.Words.{epoch_day}
use Rattle.calendar.proofs.JiffDates.{civil-none, i16_of, i8_of, made-range}
use Rattle.calendar.proofs.civil.civil_of.Goals as goal

pub invariant_of-result : goal.invariant_of-result
invariant_of-result c =
    let month = i8_of c.try_from.result c.args.month _ c.try_from.ensures c.in_ok-month.ensures.value in
    let day = i8_of c.try_from-2.result c.args.day _ c.try_from-2.ensures c.in_ok-day.ensures.value in
    let year = i16_of c.args.year (omega arith) in
    (made-range c.in-Ok.date c.args.year c.args.month c.args.day _
    (c.to_unix_epoch_day.ensures.value ∙ ap epoch_day c.to_plain.ensures) (omega arith) (omega arith)
    (rw (year, month, day) at c.in-Ok.ensures.value)).0

pub returns-in-Ok : goal.returns-in-Ok
returns-in-Ok c =
    let month = i8_of c.try_from.result c.args.month _ c.try_from.ensures c.in_ok-month.ensures.value in
    let day = i8_of c.try_from-2.result c.args.day _ c.try_from-2.ensures c.in_ok-day.ensures.value in
    let year = i16_of c.args.year (omega arith) in
    let made = made-range c.in-Ok.date c.args.year c.args.month c.args.day _
    (c.to_unix_epoch_day.ensures.value ∙ ap epoch_day c.to_plain.ensures) (omega arith) (omega arith)
    (rw (year, month, day) at c.in-Ok.ensures.value) in
    record { value = sym made.1; range = made.2 }

pub returns-in-Err-clause-value : goal.returns-in-Err-clause-value
returns-in-Err-clause-value c =
    let month = i8_of c.try_from.result c.args.month _ c.try_from.ensures c.in_ok-month.ensures.value in
    let day = i8_of c.try_from-2.result c.args.day _ c.try_from-2.ensures c.in_ok-day.ensures.value in
    let year = i16_of c.args.year (omega arith) in
    sym (civil-none c.args.year c.args.month c.args.day (omega arith) (omega arith)
    (λ is. cc (c.in-Err.ensures.succeeds.1 (rw (year, month, day) is))))

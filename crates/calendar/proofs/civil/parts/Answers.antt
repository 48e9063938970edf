use Rattle.std.proofs.Common.{arith, sym}
use Rattle.calendar.proofs.DateLaws.{civil-parts, date_of-parts, is_date-parts}
use Rattle.calendar.proofs.JiffDates.{read-parts, year-casts}
use Rattle.calendar.proofs.civil.parts.Goals as goal

pub overflow_cast-result : goal.overflow_cast-result
overflow_cast-result c =
    let made = c.in_calendar-date.ensures in
    let (n, small, cast) = year-casts c.in_calendar-date.result c.args.date c.year.result made.day made.range
    c.year.ensures in
    rw cast (tt, omega arith)

pub returns : goal.returns
returns c =
    let made = c.in_calendar-date.ensures in
    let found = read-parts c.in_calendar-date.result c.args.date _ _ _ made.day made.range c.year.ensures
    c.month.ensures c.day.ensures in
    record {
      value = sym (date_of-parts found);
      years = found.year_in;
      is_date = is_date-parts found;
      number = found.number_is;
      back = civil-parts found;
    }

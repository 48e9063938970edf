use Rattle.std.proofs.Common.{◌∙◌, arith}
use Rattle.calendar.proofs.TextLaws.{date_in-text_of, short}
use Rattle.calendar.proofs.text.date_text.Goals as goal

pub returns-clause-back : goal.returns-clause-back
returns-clause-back c = λ read.
    let (month, day) = short c.parts-year.result.0 c.parts-year.result.1 c.parts-year.result.2
    c.parts-year.ensures.is_date in
    rw (c.two_digits.ensures, c.two_digits-2.ensures, c.two_digits-3.ensures, c.two_digits-4.ensures)
    (date_in-text_of c.parts-year.result.0 c.parts-year.result.1 c.parts-year.result.2
    (omega (arith, c.parts-year.ensures.years)) month day ∙ c.parts-year.ensures.back read)

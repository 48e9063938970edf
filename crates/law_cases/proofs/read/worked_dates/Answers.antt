use Rattle.law_cases.proofs.ReadCases.{known_dates, known_numbers, known_texts, leap_years}
use Rattle.law_cases.proofs.read.worked_dates.Goals as goal

pub returns : goal.returns
returns c = record {
  leap_years = leap_years;
  numbers = known_numbers;
  dates = known_dates;
  texts = known_texts;
}

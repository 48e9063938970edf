-- The dates of day 1.
use Rattle.std.proofs.Common.{◌≡◌, ◌≤◌, ap, arith, refl}
use Rattle.std.specs.Prelude.{ℤ}
use Rattle.std.proofs.lemmas.Int.{ints}
use Rattle.calendar.specs.Dates.{IsRead, date_of, days_of_months, first_day, last_started}
use Rattle.request.specs.Request.{IsStart}

-- a date of a year from 1901 on is not the first
year_first : (date_of first_day).0 ≡ 1900
unfolding date_of last_started days_of_months
year_first = refl

pub start_of : (date : ℤ) → IsRead date → 1901 ≤ (date_of date).0 → IsStart date
start_of date read late = record {
  after_first =
      let other : date ≡ first_day → ⊥ = λ same. omega (arith, year_first, ap (λ z. (date_of z).0) same) in
      let low = read.0 in
      omega (arith, ints, other);
  is_read = read.1;
}

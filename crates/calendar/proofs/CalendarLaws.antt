-- The days of years and months, and that the calendar of `jiff` counts the same.
use Rattle.std.proofs.Common.{◌≡◌, ℕ, zero, suc, ◌+◌, ◌-◌, ◌≤◌, cond, refl, ap, arith, pos}
use Rattle.std.proofs.lemmas.Bool.Decides.{nat_tests}
use Rattle.calendar.specs.Dates.{day_number, days_before_year, days_of_months, is_leap_year}
use Rattle.jiff_core.specs.Calendar.{day_count, days_from_civil, days_of_months as months_counted, days_of_years}
use Rattle.jiff_core.proofs.CalendarLemmas.{days_from_civil-day_count}
use Rattle.jiff_core.proofs.MarchLemmas.{days_of_years-march_days, days_of_years-suc, leap_day-shift}
use Rattle.jiff_core.proofs.SignedLemmas.{signed_arith}

-- 1 in a leap year, and else 0
abbrev pub leap_day : ℕ → ℕ
leap_day year = cond (is_leap_year year) 1 0

pub days_before_year-next : (k : ℕ) → days_before_year (k + 2) ≡ days_before_year (k + 1) + 365 + leap_day (k + 1)
days_before_year-next k = grind (arith, nat_tests)

-- the years and the months of `jiff` have as many days, counted from the year -10000
pub days_of_years-year : (k : ℕ) → days_of_years (k + 10001) ≡ days_before_year (k + 1) + 3652791
days_of_years-year zero = omega (arith, days_of_years-march_days 10001)
days_of_years-year (suc k) =
    let next : suc k + 10001 ≡ suc (k + 10001) = omega arith in
    let after : suc k + 1 ≡ k + 2 = omega arith in
    let shift = leap_day-shift (pos (k + 1)) (k + 10001) (ap pos (omega arith)) in
    rw (next, after) (omega (
      arith,
      days_of_years-year k,
      days_of_years-suc
          (k + 10001),
      days_before_year-next k,
      shift,
    ))

pub months_counted-same : (year months : ℕ) → months_counted (pos year) months ≡ days_of_months year months
unfolding days_of_months months_counted
months_counted-same year zero = refl
months_counted-same year (suc months) = rw (months_counted-same year months) refl

counted : (k m d : ℕ) → day_count (pos (k + 1)) m d ≡ days_of_years (k + 10001)
    + (months_counted (pos (k + 1)) (m - 1) + d - 1)
unfolding day_count
counted k m d = ap (λ n. days_of_years n + (months_counted (pos (k + 1)) (m - 1) + d - 1)) (omega arith)

pub days_from_civil-day_number : (k m d : ℕ) → 1 ≤ d → days_from_civil (pos (k + 1)) m d ≡ day_number (k + 1) m d
unfolding day_number
days_from_civil-day_number k m d first =
    omega (
      arith,
      signed_arith,
      counted k m d,
      days_from_civil-day_count
          (pos (k + 1)) m d,
      days_of_years-year k,
      months_counted-same (k + 1) (m - 1),
    )

-- Civil dates of the Gregorian calendar, and their numbers of days since 1970-01-01.
use Rattle.std.specs.Prelude.{ℕ, zero, suc, ◌+◌, ◌-◌, ◌*◌, ◌/◌, ◌%◌, ◌==◌, ◌&&◌, ◌||◌, Bool, not, nat_le, Option, Some}
use Rattle.std.specs.Prelude.{None, if◌then◌else◌, ℤ, neg_ℤ, pos, ◌+ℤ◌, ◌-ℤ◌, ◌≤ℤ◌, unsigned_abs}

abbrev pub is_leap_year : ℕ → Bool
is_leap_year year = (year % 4 == 0) && (not (year % 100 == 0) || (year % 400 == 0))

abbrev pub days_in_month : ℕ → ℕ → ℕ
days_in_month year month =
    if month == 2 then (if is_leap_year year then 29 else 28)
    else (if (month == 4) || (month == 6) || (month == 9) || (month == 11) then 30 else 31)

-- whether the calendar has this date
abbrev pub is_date : ℕ → ℕ → ℕ → Bool
is_date year month day =
    nat_le 1 month && nat_le month 12 && nat_le 1 day && nat_le day (days_in_month year month)

-- the days from 0001-01-01 to the first of a year
abbrev pub days_before_year : ℕ → ℕ
days_before_year year = 365 * (year - 1) + (year - 1) / 4 - (year - 1) / 100 + (year - 1) / 400

-- the days of the first months of a year
unfoldable pub days_of_months : ℕ → ℕ → ℕ
days_of_months year zero = 0
days_of_months year (suc months) = days_of_months year months + days_in_month year (suc months)

-- the days from the first of a year to the first of a month
abbrev pub days_before_month : ℕ → ℕ → ℕ
days_before_month year month = days_of_months year (month - 1)

-- the days from 0001-01-01 to 1970-01-01
abbrev pub days_before_1970 : ℕ
days_before_1970 = 719162

-- the number of days from 1970-01-01 to a date
unfoldable pub day_number : ℕ → ℕ → ℕ → ℤ
day_number year month day =
    pos (days_before_year year + days_before_month year month + (day - 1)) -ℤ pos days_before_1970

-- the last of the numbers from k to k + more that has started by a day, where k has
unfoldable pub last_started : (ℕ → ℕ) → ℕ → ℕ → ℕ → ℕ
last_started start day zero k = k
last_started start day (suc more) k =
    if nat_le (start (k + 1)) day then last_started start day more (k + 1) else k

-- the year of a day from 1900-01-01 to 2310-12-31, by its number of days from 0001-01-01
abbrev pub year_of : ℕ → ℕ
year_of day = last_started days_before_year day 410 1900

-- the month of a day of a year, by its number of days from the first
abbrev pub month_of : ℕ → ℕ → ℕ
month_of year day = last_started (days_before_month year) day 11 1

-- the year, the month and the day of such a day
abbrev pub in_month : ℕ → ℕ → ℕ → ℕ × ℕ × ℕ
in_month year month day = (year, month, day - days_before_month year month + 1)

abbrev pub in_year : ℕ → ℕ → ℕ × ℕ × ℕ
in_year year day = in_month year (month_of year day) day

abbrev pub in_calendar : ℕ → ℕ × ℕ × ℕ
in_calendar day = in_year (year_of day) (day - days_before_year (year_of day))

-- the same of a number of days from 1970-01-01
unfoldable pub date_of : ℤ → ℕ × ℕ × ℕ
date_of number = in_calendar (unsigned_abs (number +ℤ pos days_before_1970))

-- the numbers of 1900-01-01, of 2299-12-31 and of 2310-12-31
abbrev pub first_day : ℤ
first_day = neg_ℤ (pos 25567)

abbrev pub last_read_day : ℤ
last_read_day = pos 120529

abbrev pub last_day : ℤ
last_day = pos 124546

-- the numbers of dates, and of those that are read
abbrev pub IsCivil : ℤ → Type 0
IsCivil number = (first_day ≤ℤ number) × (number ≤ℤ last_day)

abbrev pub IsRead : ℤ → Type 0
IsRead number = (first_day ≤ℤ number) × (number ≤ℤ last_read_day)

-- the number of a date in a year from 1900 to 2299, if the calendar has it
abbrev pub civil : ℕ → ℕ → ℕ → Option ℤ
civil year month day =
    if nat_le 1900 year && nat_le year 2299 && is_date year month day
    then Some (day_number year month day) else None

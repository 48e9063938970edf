-- A date's number gives the date back.
use Rattle.std.proofs.Common.{◌≡◌, ℕ, zero, suc, ◌+◌, ◌-◌, ◌<◌, ◌≤◌, Bool, true, false, cond, nat_le, refl, ap, arith}
use Rattle.std.proofs.Common.{ℤ, pos, ◌+ℤ◌, ◌-ℤ◌, unsigned_abs}
use Rattle.std.proofs.Common.{inl, inr, negsuc, ◌≤ℤ◌}
use Rattle.std.proofs.lemmas.Bool.{cases_order}
use Rattle.std.proofs.lemmas.Bool.Decides.{nat_tests}
use Rattle.jiff_core.proofs.SignedLemmas.{signed_arith}
use Rattle.std.proofs.Common.{Some}
use Rattle.calendar.specs.Dates.{IsCivil, IsRead, civil, is_date, date_of, day_number, days_before_month}
use Rattle.calendar.specs.Dates.{days_before_year, days_in_month, days_of_months, in_calendar, last_started, month_of}
use Rattle.calendar.specs.Dates.{year_of}
use Rattle.calendar.proofs.CalendarLaws.{days_before_year-next, leap_day}

either : (b : Bool) (x y z : ℕ) → (b ≡ true → x ≡ z) → (b ≡ false → y ≡ z) → cond b x y ≡ z
either true x y z p q = p refl
either false x y z p q = q refl

is_at_most : (a b : ℕ) → nat_le a b ≡ true → a ≤ b
is_at_most a b h = grind (arith, nat_tests)

is_more : (a b : ℕ) → nat_le a b ≡ false → b < a
is_more a b h = grind (arith, nat_tests)

goes_on : (start : ℕ → ℕ) (day k n : ℕ) → ((a : ℕ) → n < a → day < start a) → start (k + 1) ≤ day → k + 1 ≤ n
goes_on start day k n after begun = elim (cases_order n (k + 1)) [
  | inl e ↦ omega arith
  | inr (inl lt) ↦ absurd (omega (arith, after (k + 1) lt))
  | inr (inr gt) ↦ omega arith
]

stops : (start : ℕ → ℕ) (day k n : ℕ) → ((a : ℕ) → a ≤ n → start a ≤ day) → k ≤ n → day < start (k + 1) → k ≡ n
stops start day k n before from_here later = elim (cases_order k n) [
  | inl e ↦ e
  | inr (inl lt) ↦ absurd (omega (arith, before (k + 1) (omega arith)))
  | inr (inr gt) ↦ absurd (omega arith)
]

-- the number n, where those up to n have started by a day and those above n haven't
last_started-is : (start : ℕ → ℕ) (day more k n : ℕ) → k ≤ n → n ≤ k + more → ((a : ℕ) → a ≤ n → start a ≤ day)
    → ((a : ℕ) → n < a → day < start a) → last_started start day more k ≡ n
unfolding last_started
last_started-is start day zero k n from_here to_there before after = omega arith
last_started-is start day (suc more) k n from_here to_there before after =
    either (nat_le (start (k + 1)) day) _ _ n
    (λ yes. last_started-is start day more (k + 1) n (goes_on start day k n after (is_at_most (start (k + 1)) day yes))
    (omega arith) before after)
    (λ no. stops start day k n before from_here (is_more (start (k + 1)) day no))

-- years and months start one after another
days_before_year-rising : (a b : ℕ) → a ≤ b → days_before_year a ≤ days_before_year b
days_before_year-rising a b h = omega arith

days_of_months-add : (year m k : ℕ) → days_of_months year m ≤ days_of_months year (k + m)
unfolding days_of_months
days_of_months-add year m zero = let same : 0 + m ≡ m = omega arith in rw same (omega arith)
days_of_months-add year m (suc k) = let next : suc k + m ≡ suc (k + m) = omega arith in
    rw next (omega (arith, days_of_months-add year m k))

days_before_month-rising : (year a b : ℕ) → a ≤ b → days_before_month year a ≤ days_before_month year b
days_before_month-rising year a b h =
    let apart : (b - 1) - (a - 1) + (a - 1) ≡ b - 1 = omega arith in
    rw apart at (days_of_months-add year (a - 1) ((b - 1) - (a - 1)))

days_of_months-none : (year : ℕ) → days_of_months year 0 ≡ 0
unfolding days_of_months
days_of_months-none year = refl

days_of_months-next : (year m : ℕ) → 1 ≤ m → days_of_months year m ≡ days_of_months year (m - 1) + days_in_month year m
unfolding days_of_months
days_of_months-next year zero h = absurd (omega arith)
days_of_months-next year (suc m) h = let back : suc m - 1 ≡ m = omega arith in rw back refl

days_of_months-all : (year : ℕ) → days_of_months year 12 ≡ 365 + leap_day year
unfolding days_of_months
days_of_months-all year = grind arith

-- the parts of a day that lies in this month of this year
in_calendar-parts : (n year month day : ℕ) → year_of n ≡ year → month_of year (n - days_before_year year) ≡ month
    → n - days_before_year year - days_before_month year month + 1 ≡ day → in_calendar n ≡ (year, month, day)
in_calendar-parts n year month day e f g = rw (e, f, g) refl

-- a year starts after the days of the one before
days_before_year-after : (year : ℕ) → 1 ≤ year
    → days_before_year (year + 1) ≡ days_before_year year + days_of_months year 12
days_before_year-after year first =
    let one : year - 1 + 1 ≡ year = omega arith in
    let two : year - 1 + 2 ≡ year + 1 = omega arith in
    omega (arith, rw (one, two) at (days_before_year-next (year - 1)), days_of_months-all year)

in_calendar-is : (n year month day : ℕ) → 1900 ≤ year → year ≤ 2310 → 1 ≤ month → month ≤ 12 → 1 ≤ day
    → day ≤ days_in_month year month
    → n ≡ days_before_year year + days_before_month year month + (day - 1) → in_calendar n ≡ (year, month, day)
in_calendar-is n year month day y₁ y₂ m₁ m₂ d₁ d₂ e =
    let next_year = days_before_year-after year (omega arith) in
    let next_month = days_of_months-next year month m₁ in
    let back : month + 1 - 1 ≡ month = omega arith in
    let within = rw back at (days_before_month-rising year (month + 1) 13 (omega arith)) in
    in_calendar-parts n year month day
    (last_started-is days_before_year n 410 1900 year y₁ (omega arith)
    (λ a h. omega (arith, days_before_year-rising a year h))
    (λ a h. omega (arith, days_before_year-rising (year + 1) a (omega arith))))
    (last_started-is (days_before_month year) (n - days_before_year year) 11 1 month m₁ (omega arith)
    (λ a h. omega (arith, days_before_month-rising year a month h))
    (λ a h. omega (arith, rw back at (days_before_month-rising year (month + 1) a (omega arith)))))
    (omega arith)

there_and_back : (a b : ℕ) → pos a -ℤ pos b +ℤ pos b ≡ pos a
there_and_back a b = omega (arith, signed_arith)

number-days : (year month day : ℕ) → unsigned_abs (day_number year month day +ℤ pos 719162)
    ≡ days_before_year year + days_before_month year month + (day - 1)
unfolding day_number
number-days year month day =
    ap unsigned_abs (there_and_back (days_before_year year + days_before_month year month + (day - 1)) 719162)

pub date_of-day_number : (year month day : ℕ) → 1900 ≤ year → year ≤ 2310 → 1 ≤ month → month ≤ 12 → 1 ≤ day
    → day ≤ days_in_month year month
    → date_of (day_number year month day) ≡ (year, month, day)
unfolding date_of
date_of-day_number year month day y₁ y₂ m₁ m₂ d₁ d₂ =
    in_calendar-is _ year month day y₁ y₂ m₁ m₂ d₁ d₂ (number-days year month day)

-- the calendar has a date of these years by its number
pub record IsDateOf (number : ℤ) (year month day : ℕ) : Type 0 where
  pub year_in : (1900 ≤ year) × (year ≤ 2310)
  pub month_in : (1 ≤ month) × (month ≤ 12)
  pub day_in : (1 ≤ day) × (day ≤ days_in_month year month)
  pub number_is : day_number year month day ≡ number

pub date_of-parts : {number : ℤ} {year month day : ℕ} → IsDateOf number year month day
    → date_of number ≡ (year, month, day)
date_of-parts {number} {year} {month} {day} h =
    rw (← h.number_is) (date_of-day_number year month day h.year_in.0 h.year_in.1 h.month_in.0 h.month_in.1 h.day_in.0
    h.day_in.1)

pub is_date-parts : {number : ℤ} {year month day : ℕ} → IsDateOf number year month day → is_date year month day ≡ true
is_date-parts {number} {year} {month} {day} h = grind (arith, nat_tests, h.month_in, h.day_in)

days-range : (year month day last : ℕ) → 1900 ≤ year → year ≤ last → 1 ≤ month → month ≤ 12 → 1 ≤ day
    → day ≤ days_in_month year month
    → (days_before_year 1900 ≤ days_before_year year + days_before_month year month + (day - 1))
    × (days_before_year year + days_before_month year month + (day - 1) < days_before_year (last + 1))
days-range year month day last y₁ y₂ m₁ m₂ d₁ d₂ =
    let back : month + 1 - 1 ≡ month = omega arith in
    let within = rw back at (days_before_month-rising year (month + 1) 13 (omega arith)) in
    omega (
      arith,
      days_before_year-rising 1900 year y₁,
      days_before_year-rising (year + 1) (last + 1)
          (omega arith),
      days_before_year-after year (omega arith),
      days_of_months-next year month m₁,
    )

-- the number of a date that is read
pub number-range : (year month day : ℕ) → 1900 ≤ year → year ≤ 2299 → 1 ≤ month → month ≤ 12 → 1 ≤ day
    → day ≤ days_in_month year month
    → IsCivil (day_number year month day) × IsRead (day_number year month day)
unfolding day_number
number-range year month day y₁ y₂ m₁ m₂ d₁ d₂ =
    let range = days-range year month day 2299 y₁ y₂ m₁ m₂ d₁ d₂ in
    omega (arith, signed_arith)

pub civil-date : (year month day : ℕ) → 1900 ≤ year → year ≤ 2299 → 1 ≤ month → month ≤ 12 → 1 ≤ day
    → day ≤ days_in_month year month → civil year month day ≡ Some (day_number year month day)
civil-date year month day y₁ y₂ m₁ m₂ d₁ d₂ = grind (arith, nat_tests)

-- and the year of one is at most 2299
read-year : (year month day : ℕ) → 1 ≤ year → IsRead (day_number year month day) → year ≤ 2299
unfolding day_number
read-year year month day first read =
    elim (cases_order year 2300) [
      | inl e ↦ absurd (omega (arith, signed_arith, days_before_year-rising 2300 year (omega arith)))
      | inr (inl lt) ↦ omega arith
      | inr (inr gt) ↦ absurd (omega (arith, signed_arith, days_before_year-rising 2300 year (omega arith)))
    ]

pub civil-parts : {number : ℤ} {year month day : ℕ} → IsDateOf number year month day → IsRead number
    → civil year month day ≡ Some number
civil-parts {number} {year} {month} {day} h read =
    let early = read-year year month day (omega (arith, h.year_in)) (rw h.number_is read) in
    rw (← h.number_is) (civil-date year month day h.year_in.0 early h.month_in.0 h.month_in.1 h.day_in.0 h.day_in.1)

-- what has started last has started, and the next has not
abbrev IsLast : (ℕ → ℕ) → ℕ → ℕ → ℕ → ℕ → Type 0
IsLast start day more k n = (k ≤ n) × (n ≤ k + more) × (start n ≤ day) × (day < start (n + 1))

last_or : (start : ℕ → ℕ) (day more k : ℕ) (b : Bool) (x y : ℕ) → (b ≡ true → IsLast start day more k x)
    → (b ≡ false → IsLast start day more k y) → IsLast start day more k (cond b x y)
last_or start day more k true x y p q = p refl
last_or start day more k false x y p q = q refl

last_started-last : (start : ℕ → ℕ) (day more k : ℕ) → start k ≤ day → day < start (k + more + 1)
    → IsLast start day more k (last_started start day more k)
unfolding last_started
last_started-last start day zero k here end =
    let same : k + 0 + 1 ≡ k + 1 = omega arith in
    (omega arith, omega arith, here, rw same at end)
last_started-last start day (suc more) k here end =
    let same : k + suc more + 1 ≡ k + 1 + more + 1 = omega arith in
    last_or start day (suc more) k (nat_le (start (k + 1)) day) _ _
    (λ yes. let found = last_started-last start day more (k + 1) (is_at_most (start (k + 1)) day yes)
    (rw same at end) in
    (omega (arith, found.0), omega (arith, found.1), found.2, found.3))
    (λ no. (omega arith, omega arith, here, is_more (start (k + 1)) day no))

day_number-of : (year month day n : ℕ) (number : ℤ) → number +ℤ pos 719162 ≡ pos n
    → n ≡ days_before_year year + days_before_month year month + (day - 1) → day_number year month day ≡ number
unfolding day_number
day_number-of year month day n number e f = omega (arith, signed_arith)

-- each number of a date is that of its year, its month and its day
is_date_of : (n : ℕ) (number : ℤ) → number +ℤ pos 719162 ≡ pos n → days_before_year 1900 ≤ n → n < days_before_year 2311
    → IsDateOf number (in_calendar n).0 (in_calendar n).1 (in_calendar n).2
is_date_of n number e low high =
    let year = year_of n in
    let (y₁, y₂, y₃, y₄) = last_started-last days_before_year n 410 1900 low high in
    let after = days_before_year-after year (omega (arith, y₁)) in
    let day = n - days_before_year year in
    let none = days_of_months-none year in
    let (m₁, m₂, m₃, m₄) = last_started-last (days_before_month year) day 11 1 (omega arith) (omega (arith, y₃, y₄)) in
    let month = month_of year day in
    let back : month + 1 - 1 ≡ month = omega arith in
    let next = days_of_months-next year month m₁ in
    record {
      year_in = (y₁, omega (arith, y₂));
      month_in = (m₁, omega (arith, m₂));
      day_in = (omega arith, omega (arith, rw back at m₄));
      number_is = day_number-of year month (day - days_before_month year month + 1) n number e (omega (arith, y₃, m₃));
    }

up_to : (z : ℤ) → pos 0 ≤ℤ z → z ≡ pos (unsigned_abs z)
up_to (pos n) h = refl
up_to (negsuc n) h = absurd (omega (arith, signed_arith))

counted_up : (number : ℤ) → IsCivil number → number +ℤ pos 719162 ≡ pos (unsigned_abs (number +ℤ pos 719162))
counted_up number h = up_to (number +ℤ pos 719162) (omega (arith, signed_arith))

pub date_of-date : (number : ℤ) → IsCivil number
    → IsDateOf number (date_of number).0 (date_of number).1 (date_of number).2
unfolding date_of
date_of-date number h =
    let e = counted_up number h in
    is_date_of (unsigned_abs (number +ℤ pos 719162)) number e (omega (arith, signed_arith, e))
    (omega (arith, signed_arith, e))

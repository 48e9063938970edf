-- The dates of `jiff` with a year from 1900 to 2310.
use Rattle.std.proofs.Common.{◌≡◌, ℕ, ◌+◌, ◌-◌, ◌≤◌, Some, None, true, false, Bool, cond, refl, ap, sym, ◌∙◌, arith, ℤ}
use Rattle.std.proofs.Common.{pos, neg_ℤ, ◌≤ℤ◌, unsigned_abs, nat_le}
use Rattle.std.proofs.lemmas.Bool.Decides.{nat_tests}
use Rattle.std.proofs.lemmas.Int.{by_lt_z, ints}
use Rattle.std.proofs.Common.{◌&&◌}
use Rattle.jiff_core.specs.declared.civil.date.Date.{Date}
use Rattle.jiff_core.specs.Calendar.{IsCivilDate, IsDate, days_from_civil}
use Rattle.jiff_core.specs.Date.{IsYmd, epoch_day}
use Rattle.jiff_core.proofs.CalendarLemmas.{day_count-lt_year, days_from_civil-day_count}
use Rattle.jiff_core.proofs.SignedLemmas.{signed_arith}
use Rattle.jiff_core.proofs.StandardFacts.{known_days}
use Rattle.jiff_core.specs.declared.span.Span.{Span}
use Rattle.jiff_core.specs.declared.unit.Unit.TheVariants.{Day}
use Rattle.jiff_core.specs.Span.{IsOnly}
use Rattle.std.specs.Result.{OkIff, result_ok}
use Rattle.std.proofs.Common.{Result, Ok, Err}
use Rattle.std.proofs.Common.{FitsSigned, of_z, to_z, to_z-of_z, w8, w16, w32, w64, negsuc}
use Rattle.calendar.specs.Dates.{IsCivil, IsRead, civil, day_number, days_in_month, days_of_months, is_date}
use Rattle.calendar.proofs.CalendarLaws.{days_from_civil-day_number}
use Rattle.calendar.proofs.DateLaws.{IsDateOf, civil-parts, number-range}

-- a date of `jiff`, by its parts
pub of_date : (d : Date) → IsCivilDate d.year d.month d.day
of_date d = (d.year_in, d.month_in, d.day_in)

first_day : days_from_civil (pos 1900) 1 1 ≡ neg_ℤ (pos 25567)
unfolding day_number days_of_months
first_day = days_from_civil-day_number 1899 1 1 (omega arith)

last_day : days_from_civil (pos 2310) 12 31 ≡ pos 124546
unfolding day_number days_of_months
last_day = days_from_civil-day_number 2309 12 31 (omega arith)

last_date : IsCivilDate (pos 2310) 12 31
last_date = (omega (arith, signed_arith), omega arith, omega arith)

pub year-from : (y : ℤ) (m d : ℕ) → IsCivilDate y m d → neg_ℤ (pos 25567) ≤ℤ days_from_civil y m d → pos 1900 ≤ℤ y
year-from y m d h low = by_lt_z y (pos 1900)
    (λ lt. absurd (omega (
      arith,
      signed_arith,
      first_day,
      low,
      day_count-lt_year y m d (pos 1900) 1 1 h
          (omega arith) lt,
      days_from_civil-day_count y m d,
      days_from_civil-day_count (pos 1900) 1 1,
    )))
    (λ ge. ge)

pub year-to : (y : ℤ) (m d : ℕ) → IsCivilDate y m d → days_from_civil y m d ≤ℤ pos 124546 → y ≤ℤ pos 2310
year-to y m d h high = by_lt_z (pos 2310) y
    (λ lt. absurd (omega (
      arith,
      signed_arith,
      last_day,
      high,
      day_count-lt_year
          (pos 2310) 12 31 y m d last_date h.2.0 lt,
      days_from_civil-day_count y m d,
      days_from_civil-day_count (pos 2310) 12 31,
    )))
    (λ ge. ge)

late : (z : ℤ) → pos 1900 ≤ℤ z → (z ≡ pos (unsigned_abs z)) × (1900 ≤ unsigned_abs z)
late (pos n) h = (refl, omega (arith, signed_arith))
late (negsuc n) h = absurd (omega (arith, signed_arith))

-- the parts of a date by its number
pub date-parts : (d : Date) (number : ℤ) → epoch_day d ≡ number → IsCivil number
    → (d.year ≡ pos (unsigned_abs d.year)) × IsDateOf number (unsigned_abs d.year) d.month d.day
date-parts d number e range =
    let low = year-from d.year d.month d.day (of_date d) (rw e range.0) in
    let high = year-to d.year d.month d.day (of_date d) (rw e range.1) in
    let (year, from_1900) = late d.year low in
    let to_2310 : unsigned_abs d.year ≤ 2310 = omega (arith, signed_arith, rw year at high) in
    let one : unsigned_abs d.year - 1 + 1 ≡ unsigned_abs d.year = omega (arith, from_1900) in
    let counted = rw one at (days_from_civil-day_number (unsigned_abs d.year - 1) d.month d.day d.day_in.0) in (
      year,
      record {
        year_in = (from_1900, to_2310);
        month_in = d.month_in;
        day_in = d.day_in;
        number_is = sym counted ∙ ap (λ z. days_from_civil z d.month d.day) (sym year) ∙ e;
      },
    )

-- 1970-01-01
pub epoch : (d : Date) → IsYmd (pos 1970) (pos 1) (pos 1) d → epoch_day d ≡ pos 0
epoch d h =
    let m : d.month ≡ 1 = cc (h.1) in
    let k : d.day ≡ 1 = cc (h.2) in
    rw (h.0, m, k) known_days.0

-- a span of so many days
pub days_only : (n from : ℤ) (s : Span) → IsCivil n → from ≡ to_z w32 (of_z w32 n)
    → IsOnly Day (to_z w64 (of_z w64 from)) s → IsOnly Day n s
days_only n from s range e only =
    let fits : FitsSigned w32 n = omega (arith, signed_arith) in
    let wide : FitsSigned w64 n = omega (arith, signed_arith) in
    let same : from ≡ n = e ∙ to_z-of_z fits in
    rw (same, to_z-of_z wide) at only

-- signed numbers that a date is read by
cast_year : (z : ℤ) (n : ℕ) → z ≡ pos n → n ≤ 2310 → to_z w16 (of_z w16 z) ≡ pos n
cast_year z n e h = let fits : FitsSigned w16 (pos n) = omega (arith, signed_arith) in rw e (to_z-of_z fits)

cast_small : (z : ℤ) (n : ℕ) → z ≡ pos n → n ≤ 31 → to_z w8 (of_z w8 z) ≡ pos n
cast_small z n e h = let fits : FitsSigned w8 (pos n) = omega (arith, signed_arith) in rw e (to_z-of_z fits)

short : (year month : ℕ) → days_in_month year month ≤ 31
short year month = grind arith

pub read-parts : (d : Date) (number year month day : ℤ) → epoch_day d ≡ number → IsCivil number → year ≡ d.year
    → month ≡ pos d.month → day ≡ pos d.day
    → IsDateOf number (unsigned_abs (to_z w16 (of_z w16 year))) (unsigned_abs (to_z w8 (of_z w8 month)))
    (unsigned_abs (to_z w8 (of_z w8 day)))
read-parts d number year month day e range y m k =
    let (same, parts) = date-parts d number e range in
    let brief = short (unsigned_abs d.year) d.month in
    rw (
      cast_year year (unsigned_abs d.year) (y ∙ same) parts.year_in.1,
      cast_small month d.month m
          (omega (arith, parts.month_in)),
      cast_small day d.day k (omega (arith, parts.day_in, brief)),
    ) parts

pub year-casts : (d : Date) (number year : ℤ) → epoch_day d ≡ number → IsCivil number → year ≡ d.year
    → (n : ℕ) × (n ≤ 2310) × (to_z w16 (of_z w16 year) ≡ pos n)
year-casts d number year e range y =
    let (same, parts) = date-parts d number e range in
    (unsigned_abs d.year, parts.year_in.1, cast_year year (unsigned_abs d.year) (y ∙ same) parts.year_in.1)

-- unsigned numbers that a date is made of
pub i8_of : {E : Type 0} (made : Result ℤ E) (n : ℕ) (z : ℤ) → OkIff made (FitsSigned w8 (pos n)) (pos n)
    → Some z ≡ result_ok made → to_z w8 (of_z w8 z) ≡ pos n
i8_of (Ok x) n z h e = let same : z ≡ pos n = cc in rw same (to_z-of_z h.0)
i8_of (Err x) n z h e = cc

pub i16_of : (n : ℕ) → n ≤ 2299 → to_z w16 n ≡ pos n
i16_of n h = omega (arith, ints)

pub made-parts : (d : Date) (year month day : ℕ) → 1900 ≤ year → year ≤ 2299 → IsYmd (pos year) (pos month) (pos day) d
    → IsDateOf (epoch_day d) year month day
made-parts d year month day y₁ y₂ h =
    let m : d.month ≡ month = cc (h.1) in
    let k : d.day ≡ day = cc (h.2) in
    let one : year - 1 + 1 ≡ year = omega arith in
    let counted = rw one at (days_from_civil-day_number (year - 1) month day (rw k at d.day_in.0)) in
    record {
      year_in = (y₁, omega arith);
      month_in = rw m at d.month_in;
      day_in = rw (h.0, m, k) at d.day_in;
      number_is = rw (h.0, m, k) (sym counted);
    }

-- what is kept of a date that was made
pub made-range : (d : Date) (year month day : ℕ) (days : ℤ) → days ≡ epoch_day d → 1900 ≤ year → year ≤ 2299
    → IsYmd (pos year) (pos month) (pos day) d
    → IsCivil (to_z w32 (of_z w32 days)) × (civil year month day ≡ Some (to_z w32 (of_z w32 days)))
    × IsRead (to_z w32 (of_z w32 days))
made-range d year month day days e y₁ y₂ h =
    let made = made-parts d year month day y₁ y₂ h in
    let (in_range, read) = rw made.number_is at (number-range year month day y₁ y₂ made.month_in.0 made.month_in.1
    made.day_in.0 made.day_in.1) in
    let fits : FitsSigned w32 (epoch_day d) = omega (arith, signed_arith) in
    rw (e, to_z-of_z fits) (in_range, civil-parts made read, read)

date_bounds : (year month day : ℕ) → (nat_le 1900 year && nat_le year 2299 && is_date year month day) ≡ true
    → (1 ≤ month) × (month ≤ 12) × (1 ≤ day) × (day ≤ days_in_month year month)
date_bounds year month day h = (
  grind (arith, nat_tests),
  grind (arith, nat_tests),
  grind (arith, nat_tests),
  grind
      (arith, nat_tests),
)

unmade : (b : Bool) (x : ℤ) → ¬ (b ≡ true) → cond b (Some x) None ≡ None
unmade true x h = absurd (h refl)
unmade false x h = refl

-- where the calendar of `jiff` has no such date
pub civil-none : (year month day : ℕ) → 1900 ≤ year → year ≤ 2299 → ¬ (IsDate (pos year) (pos month) (pos day))
    → civil year month day ≡ None
civil-none year month day y₁ y₂ h = unmade _ (day_number year month day) (λ t.
    let bounds = date_bounds year month day t in
    h (omega (arith, signed_arith), omega (arith, signed_arith, bounds), omega (arith, signed_arith, bounds)))

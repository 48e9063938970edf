-- A date that was read is written as it was, and read again.
use Rattle.std.proofs.Common.{ℕ, ◌-◌, ◌<◌, ◌≤◌, ◌≡◌, ◌^◌, ◌/◌, Bool, true, false, ◌∷◌, ◌++◌, nat_le, nat_lt, Some, None}
use Rattle.std.proofs.Common.{Ok, refl, ◌∙◌, ap, ⊎_elim, arith, lt-ltb}
use Rattle.std.specs.Prelude.{◌&&◌, IsSome, if◌then◌else◌}
use Rattle.std.specs.Fmt.{decimal, char_count, format_spec, padded_integral, styled_decimal}
use Rattle.std.proofs.lemmas.Bool.{cases_lt}
use Rattle.std.proofs.lemmas.Bool.Decides.{nat_tests}
use Rattle.std.proofs.lemmas.Fmt.{decimal_digit, decimal_step}
use Rattle.admit_core.specs.declared.tables.Since.{Since}
use Rattle.calendar.specs.Dates.{civil, day_number, days_in_month, is_date}
use Rattle.calendar.specs.Texts.{text_of}
use Rattle.calendar.proofs.DateLaws.{date_of-day_number}
use Rattle.calendar.proofs.TextLaws.{date_in-text_of, short}
use Rattle.dossier_csv.specs.Columns.{IsSince, optional_date_from}
use Rattle.report.proofs.DateWords.{written_date}
use Rattle.slot_text.specs.Texts.{date_word, two_or_more}

-- a month or a day is written as it is printed with a width of two
as_padded : (n : ℕ) → n < 100 → two_or_more n ≡ styled_decimal (format_spec 32 0 4 2 (2 ^ 64 - 1)) n
unfolding padded_integral char_count
as_padded n small = ⊎_elim
    (λ one. rw (lt-ltb n 10 one, decimal_digit n one) refl)
    (λ two.
    let long : nat_lt n 10 ≡ false = grind (arith, nat_tests, two) in
    let wide : n < 2 ^ 64 = omega (arith, small) in
    let tens : n / 10 < 10 = omega (arith, small) in
    rw (long, decimal_step n two wide, decimal_digit (n / 10) tens) refl)
    (cases_lt n 10)

if_some : {A : Type 0} (b : Bool) (x : A) → IsSome (if b then Some x else None) → b ≡ true
if_some true x some = refl
if_some false x some = absurd (cc)

-- the parts of a date that was read
record IsParts (d : Since) : Type 0 where
  years : (1900 ≤ d.year) × (d.year ≤ 2299)
  months : (1 ≤ d.month) × (d.month ≤ 12)
  days : (1 ≤ d.day) × (d.day ≤ days_in_month d.year d.month)
  shorts : (d.month < 100) × (d.day < 100)
  is_civil : civil d.year d.month d.day ≡ Some (day_number d.year d.month d.day)

parts : (d : Since) → IsSince d → IsParts d
parts d is =
    let all = if_some (nat_le 1900 d.year && nat_le d.year 2299 && is_date d.year d.month d.day)
    (day_number d.year d.month d.day) is in
    let date : is_date d.year d.month d.day ≡ true = grind (arith, nat_tests, all) in
    record {
      years = (grind (arith, nat_tests, all), grind (arith, nat_tests, all));
      months = (grind (arith, nat_tests, date), grind (arith, nat_tests, date));
      days = (grind (arith, nat_tests, date), grind (arith, nat_tests, date));
      shorts = short d.year d.month d.day date;
      is_civil = rw all refl;
    }

pub date_written : (d : Since) → IsSince d → date_word d ≡ text_of (d.year, d.month, d.day)
date_written d is =
    let p = parts d is in
    (λ i. decimal d.year ++ 45 ∷ (as_padded d.month p.shorts.0 i ++ 45 ∷ as_padded d.day p.shorts.1 i))
    ∙ written_date d.year d.month d.day p.years.0 (omega (arith, p.years.1)) p.shorts.0 p.shorts.1

pub date_read : (d : Since) → IsSince d → optional_date_from 3 (date_word d) ≡ Ok (Some d)
date_read d is =
    let p = parts d is in
    let text = date_in-text_of d.year d.month d.day (omega (arith, p.years.1)) p.shorts.0 p.shorts.1 ∙ p.is_civil in
    let date = date_of-day_number d.year d.month d.day p.years.0 (omega (arith, p.years.1)) p.months.0 p.months.1
    p.days.0 p.days.1 in
    ap (optional_date_from 3) (date_written d is) ∙ rw (text, date) refl

-- The text of a date is read back.
use Rattle.std.proofs.Common.{◌≡◌, ℕ, ◌+◌, ◌-◌, ◌*◌, ◌/◌, ◌%◌, ◌<◌, ◌&&◌, true, cond, Option, Some, None, refl, ap, ◌∙◌}
use Rattle.std.proofs.Common.{arith}
use Rattle.std.proofs.lemmas.Bool.Decides.{nat_tests}
use Rattle.std.specs.Char.{is_ascii_digit}
use Rattle.std.specs.Option.{option_and_then}
use Rattle.std.proofs.Common.{ℤ}
use Rattle.jiff_core.proofs.SignedLemmas.{signed_arith}
use Rattle.calendar.specs.Dates.{IsRead, civil, date_of, is_date}
use Rattle.calendar.specs.Texts.{date_in, date_text, text_of}
use Rattle.calendar.proofs.DateLaws.{civil-parts, date_of-date, is_date-parts}

are_digits : (n : ℕ) → n < 100 → (is_ascii_digit (48 + n / 10) && is_ascii_digit (48 + n % 10)) ≡ true
are_digits n h = grind (arith, nat_tests)

digits-back : (n : ℕ) → n < 100 → cond (is_ascii_digit (48 + n / 10) && is_ascii_digit (48 + n % 10))
    (Some (10 * (48 + n / 10 - 48) + (48 + n % 10 - 48))) None ≡ Some n
digits-back n h = let same : 10 * (48 + n / 10 - 48) + (48 + n % 10 - 48) ≡ n = omega arith in
    rw (are_digits n h, same) refl

bind : {A B : Type 0} (o : Option A) (f : A → Option B) (x : A) (y : Option B) → o ≡ Some x → f x ≡ y
    → option_and_then f o ≡ y
bind o f x y e h = rw e h

pub date_in-text_of : (year month day : ℕ) → year < 10000 → month < 100 → day < 100
    → date_in (text_of (year, month, day)) ≡ civil year month day
unfolding date_in
date_in-text_of year month day y m d =
    let whole : 100 * (year / 100) + year % 100 ≡ year = omega arith in
    bind _ _ (year / 100) _ (digits-back (year / 100) (omega arith))
    (bind _ _ (year % 100) _ (digits-back (year % 100) (omega arith))
    (bind _ _ month _ (digits-back month m) (bind _ _ day _ (digits-back day d) (ap (λ n. civil n month day) whole))))

-- two digits write the month and the day of a date
pub short : (year month day : ℕ) → is_date year month day ≡ true → (month < 100) × (day < 100)
short year month day h = (grind (arith, nat_tests), grind (arith, nat_tests))

-- and so of its number
pub date_in-date_text : (number : ℤ) → IsRead number → date_in (date_text number) ≡ Some number
date_in-date_text number read =
    let date = date_of-date number (read.0, omega (arith, signed_arith)) in
    let (month, day) = short (date_of number).0 (date_of number).1 (date_of number).2 (is_date-parts date) in
    date_in-text_of (date_of number).0 (date_of number).1 (date_of number).2 (omega (arith, date.year_in)) month day
    ∙ civil-parts date read

-- A date that can be written is told by its text.
use Rattle.std.proofs.Common.{◌≡◌, ℕ, ◌+◌, ◌/◌, ◌%◌, ◌<◌, List, [], ◌∷◌, ◌++◌, sym, ◌∙◌, arith, ℤ}
use Rattle.std.specs.Prelude.{◌≤ℤ◌}
use Rattle.jiff_core.proofs.SignedLemmas.{signed_arith}
use Rattle.calendar.specs.Dates.{IsCivil, date_of, day_number, last_day}
use Rattle.calendar.specs.Texts.{date_text, text_of, two_digits}
use Rattle.calendar.proofs.DateLaws.{date_of-date, is_date-parts}
use Rattle.calendar.proofs.TextLaws.{short}
use Rattle.report.specs.DayText.{date_on, last_date}
use Rattle.report_laws.proofs.Words.{IsToken, cons_told}

digits_told : (m n : ℕ) → m < 100 → n < 100 → 48 + m / 10 ≡ 48 + n / 10 → 48 + m % 10 ≡ 48 + n % 10 → m ≡ n
digits_told m n short few tens ones = omega arith

-- two digits, and what follows them
two_told : (m n : ℕ) (r q : List ℕ) → m < 100 → n < 100 → two_digits m ++ r ≡ two_digits n ++ q → (m ≡ n) × (r ≡ q)
two_told m n r q short few e =
    let ones : (48 + m % 10) ∷ r ≡ (48 + n % 10) ∷ q =
    (cons_told e).1 in (
      digits_told m n short few (cons_told e).0
          (cons_told ones).0,
      (cons_told ones).1,
    )

-- the three numbers of a date
text_told : (y m d year month day : ℕ) → y < 10000 → m < 100 → d < 100 → year < 10000 → month < 100 → day < 100
    → text_of (y, m, d) ≡ text_of (year, month, day) → (y ≡ year) × (m ≡ month) × (d ≡ day)
text_told y m d year month day ly lm ld lyear lmonth lday e =
    let days : ℕ → List ℕ = λ k. 45 ∷ two_digits k in
    let months : ℕ → ℕ → List ℕ = λ j k. 45 ∷ (two_digits j ++ days k) in
    let century = two_told (y / 100) (year / 100) (two_digits (y % 100) ++ months m d)
    (two_digits (year % 100) ++ months month day)
    (omega arith) (omega arith) e in
    let years = two_told (y % 100) (year % 100) (months m d) (months month day) (omega arith) (omega arith) century.1 in
    let hundreds : y / 100 ≡ year / 100 = century.0 in
    let rest : y % 100 ≡ year % 100 = years.0 in
    let month_too = two_told m month (days d) (days day) lm lmonth
    (cons_told years.1).1 in
    let day_too = two_told d day [] [] ld lday (cons_told month_too.1).1 in
    (omega arith, month_too.0, day_too.0)

pub date_told : (m n : ℤ) → IsCivil m → IsCivil n → date_text m ≡ date_text n → m ≡ n
date_told m n is are e =
    let one = date_of-date m is in
    let other = date_of-date n are in
    let (month, day) = short (date_of m).0 (date_of m).1 (date_of m).2 (is_date-parts one) in
    let (months, days) = short (date_of n).0 (date_of n).1 (date_of n).2 (is_date-parts other) in
    let told = text_told (date_of m).0 (date_of m).1 (date_of m).2 (date_of n).0 (date_of n).1 (date_of n).2
    (omega (arith, one.year_in)) month day (omega (arith, other.year_in)) months days e in
    sym one.number_is ∙ (λ i. day_number (told.0 i) (told.1 i) (told.2 i)) ∙ other.number_is

text_word : (year month day : ℕ) → IsToken (text_of (year, month, day))
text_word year month day =
    let high : (k : ℕ) → 44 < 48 + k = λ k. omega arith in
    let line : 44 < 45 = omega arith in (
      high (year / 100 / 10),
      (
        high (year / 100 % 10),
        (
          high (year % 100 / 10),
          (
            high (year % 100 % 10),
            (line, (high (month / 10), (high (month % 10), (line, (high (day / 10), (high (day % 10), tt)))))),
          ),
        ),
      ),
    )

pub date_word : (m : ℤ) → IsToken (date_text m)
date_word m = text_word (date_of m).0 (date_of m).1 (date_of m).2

pub deadline_is : (start : ℤ) (term : ℕ) (offered : ℤ) → IsCivil (date_on start offered)
    → last_date start term offered ≤ℤ last_day → IsCivil (last_date start term offered)
deadline_is start term offered is last = (omega (arith, signed_arith), last)

pub offered_is : (start : ℤ) (term : ℕ) (one other : ℤ) → last_date start term one ≡ last_date start term other → one
    ≡ other
offered_is start term one other e = omega (arith, signed_arith)

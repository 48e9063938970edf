-- Dates as ten bytes, YYYY-MM-DD.
use Rattle.std.specs.Prelude.{ℕ, ◌+◌, ◌-◌, ◌*◌, ◌/◌, ◌%◌, ◌==◌, ◌&&◌, List, [], ◌∷◌, ◌++◌, length, slice_index, Option}
use Rattle.std.specs.Prelude.{Some, None, if◌then◌else◌, ℤ}
use Rattle.std.specs.Char.{is_ascii_digit}
use Rattle.std.specs.Option.{option_and_then}
use Rattle.calendar.specs.Dates.{civil, date_of}

-- a number below 100 by its two digits
abbrev pub two_digits : ℕ → List ℕ
two_digits n = (48 + n / 10) ∷ (48 + n % 10) ∷ []

abbrev pub text_of : ℕ × ℕ × ℕ → List ℕ
text_of date =
    two_digits (date.0 / 100) ++ two_digits (date.0 % 100) ++ (45 ∷ two_digits date.1)
    ++ (45 ∷ two_digits date.2)

-- the text of the date with a number of days from 1970-01-01
abbrev pub date_text : ℤ → List ℕ
date_text number = text_of (date_of number)

-- the number that the two digits from a place on make
abbrev pub number_at : List ℕ → ℕ → Option ℕ
number_at text place =
    if is_ascii_digit (slice_index text place) && is_ascii_digit (slice_index text (place + 1)) then
    Some (10 * (slice_index text place - 48) + (slice_index text (place + 1) - 48))
    else None

infixl 10 ◌>>=◌
abbrev pub ◌>>=◌ : {A B : Type 0} → Option A → (A → Option B) → Option B
o >>= f = option_and_then f o

-- the number of the date in a year from 1900 to 2299 that a text names
unfoldable pub date_in : List ℕ → Option ℤ
date_in text =
    if (length text == 10) && (slice_index text 4 == 45) && (slice_index text 7 == 45) then (do
      century ← number_at text 0
      year ← number_at text 2
      month ← number_at text 5
      day ← number_at text 8
      civil (100 * century + year) month day)
    else None

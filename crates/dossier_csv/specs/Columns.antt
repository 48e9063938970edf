-- What the fields of a row say, from left to right, with the first fault that is met.
use Rattle.std.specs.Prelude.{ℕ, ◌-◌, ◌&&◌, Bool, true, false, List, [], ◌∷◌, length, map, Option, Some, None, Result}
use Rattle.std.specs.Prelude.{Ok, Err, nat_lt, nat_le, unwrap_or, if◌then◌else◌, IsSome}
use Rattle.std.specs.Prelude.{codes, nat_eq}
use Rattle.std.specs.Cmp.Lexicographic.{pointwise}
use Rattle.std.specs.Char.{is_ascii_digit}
use Rattle.std.specs.List.{list_all}
use Rattle.std.specs.Option.{ok_or}
use Rattle.std.specs.Str.Parse.{digits_value}
use Rattle.csv.specs.Records.{field_at}
use Rattle.admit_core.specs.declared.refusal.Reason.{Reason}
use Rattle.admit_core.specs.declared.refusal.Reason.TheVariants.{NotDate, NotFlag, NotNumber, NotWord, OutOfRange}
use Rattle.admit_core.specs.declared.tables.Since.{Since}
use Rattle.calendar.specs.Dates.{civil, date_of}
use Rattle.calendar.specs.Texts.{date_in}
use Rattle.dossier_csv.specs.declared.columns.Limits.{Limits}

infixl 10 ◌>>=◌
abbrev pub ◌>>=◌ : {A B : Type 0} → Result A Reason → (A → Result B Reason) → Result B Reason
(Ok x) >>= f = f x
(Err e) >>= f = Err e

-- ids and ranks
abbrev pub ids : Limits
ids = record { least = 1; most = 2000000000 }

-- seats, beds, ceilings, preferences and call limits
abbrev pub amounts : Limits
amounts = record { least = 0; most = 2000000000 }

-- percentages
abbrev pub percents : Limits
percents = record { least = 0; most = 100 }

-- days of a campaign
abbrev pub days : Limits
days = record { least = 1; most = 366 }

-- the bytes of the field at a position from 1 on, none where there is no such field
abbrev pub text_at : List (List ℕ) → ℕ → List ℕ
text_at fields position = unwrap_or (field_at fields (position - 1)) []

-- the number that a digit writes
abbrev pub digit_of : ℕ → Option ℕ
digit_of byte = if is_ascii_digit byte then Some (byte - 48) else None

-- the number that a text of 1 to 10 digits writes
abbrev pub number_of : List ℕ → Option ℕ
number_of text =
    if nat_lt 0 (length text) && nat_le (length text) 10 && list_all is_ascii_digit text
    then Some (digits_value 10 text) else None

-- a number within limits
abbrev pub within : Limits → ℕ → Option ℕ → Result ℕ Reason
within limits position None = Err (NotNumber position)
within limits position (Some n) =
    if nat_le limits.least n && nat_le n limits.most then Ok n else Err (OutOfRange position)

-- a number column
unfoldable pub number : Limits → List (List ℕ) → ℕ → Result ℕ Reason
number limits fields position = within limits position (number_of (text_at fields position))

-- a number column that only a longer header has: 0 where the row has no such field
unfoldable pub added_number : Limits → List (List ℕ) → ℕ → Result ℕ Reason
added_number limits fields position =
    if nat_lt (length fields) position then Ok 0 else number limits fields position

-- a number column that may be empty
abbrev pub optional_from : Limits → ℕ → List ℕ → Result (Option ℕ) Reason
optional_from limits position [] = Ok None
optional_from limits position text = within limits position (number_of text) >>= λ n. Ok (Some n)

unfoldable pub optional_number : Limits → List (List ℕ) → ℕ → Result (Option ℕ) Reason
optional_number limits fields position = optional_from limits position (text_at fields position)

abbrev pub since_of : ℕ × ℕ × ℕ → Since
since_of date = record { year = date.0; month = date.1; day = date.2 }

-- a date column that may be empty, as it is where the row has no such field
abbrev pub optional_date_from : ℕ → List ℕ → Result (Option Since) Reason
optional_date_from position [] = Ok None
optional_date_from position text =
    ok_or (date_in text) (NotDate position) >>= λ number. Ok (Some (since_of (date_of number)))

unfoldable pub optional_date : List (List ℕ) → ℕ → Result (Option Since) Reason
optional_date fields position = optional_date_from position (text_at fields position)

-- a date that `calendar` makes again
abbrev pub IsSince : Since → Type 0
IsSince since = IsSome (civil since.year since.month since.day)

-- the value that stands beside a word in a table
abbrev pub choice : {A : Type 0} → List (List ℕ × A) → List ℕ → Option A
choice [] text = None
choice (entry ∷ others) text =
    if pointwise nat_eq text entry.0 then Some entry.1 else choice others text

-- a flag column
unfoldable pub flag : List (List ℕ) → ℕ → Result Bool Reason
flag fields position =
    ok_or (choice ((codes "0", false) ∷ (codes "1", true) ∷ []) (text_at fields position))
    (NotFlag position)

-- a word column
unfoldable pub word : {A : Type 0} → List (List ℕ × A) → List (List ℕ) → ℕ → Result A Reason
word table fields position = ok_or (choice table (text_at fields position)) (NotWord position)

-- the table of these values, each beside its word
abbrev pub words : {A : Type 0} → (A → List ℕ) → List A → List (List ℕ × A)
words word_of values = map (λ value. (word_of value, value)) values

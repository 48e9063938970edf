-- What the words after the program's name ask for.
use Rattle.std.specs.Prelude.{ℕ, ◌&&◌, List, [], ◌∷◌, ◌≡◌, ◌≤◌, Option, Some, None, Result, Ok, Err, IfSome, codes}
use Rattle.std.specs.Prelude.{nat_le, option_map, unwrap_or, if◌then◌else◌, ℤ, pos, ◌+ℤ◌, ◌≤ℤ◌, ⊤}
use Rattle.std.specs.Option.{ok_or, option_and_then}
use Rattle.calendar.specs.Dates.{date_of, first_day, last_read_day}
use Rattle.calendar.specs.Texts.{date_in}
use Rattle.clap.specs.Words.{Kinds, Row, Text, fault_of, first_of, matches_of}
use Rattle.dossier_csv.specs.Columns.{choice, number_of}
use Rattle.request.specs.Command.{parcours}
use Rattle.request.specs.Modes.{IsMode, mode_of}
use Rattle.request.specs.declared.modes.Mode.{Mode}
use Rattle.request.specs.declared.modes.Numbers.{Numbers}
use Rattle.request.specs.declared.pickers.PickerChoice.{PickerChoice}
use Rattle.request.specs.declared.pickers.PickerChoice.TheVariants.{Same, Each}
use Rattle.request.specs.declared.pickers.PickerName.TheVariants.{First, Last, Turn}
use Rattle.request.specs.declared.refusal.BadWords.{BadWords}
use Rattle.request.specs.declared.refusal.WordsRefusal.{WordsRefusal}
use Rattle.request.specs.declared.refusal.WordsRefusal.TheVariants as refusals
use Rattle.request.specs.declared.request.Deadlines.{Deadlines}
use Rattle.request.specs.declared.request.Request.{Request}

abbrev pub picker_named : Text → Option PickerChoice
picker_named =
    choice ((codes "first", Same First) ∷ (codes "last", Same Last) ∷ (codes "turn", Same Turn)
    ∷ (codes "each", Each) ∷ [])

-- a number within limits
abbrev pub between : ℕ → ℕ → Option ℕ → Option ℕ
between least most None = None
between least most (Some number) =
    if nat_le least number && nat_le number most then Some number else None

-- a date, by its number of days, of a year from 1901 to 2298
abbrev pub in_start_years : Option ℤ → Option ℤ
in_start_years None = None
in_start_years (Some date) =
    if nat_le 1901 (date_of date).0 && nat_le (date_of date).0 2298 then Some date else None

-- the only fault of words
abbrev pub bad_words : BadWords
bad_words = record {}

-- the steps of reading words, each of which may find them bad
infixl 10 ◌>>=◌
abbrev pub ◌>>=◌ : {A B : Type 0} → Result A BadWords → (A → Result B BadWords) → Result B BadWords
(Ok x) >>= f = f x
(Err bad) >>= f = Err bad

-- the value of an option: none where it isn't given; its text is bad where it names nothing
abbrev pub given : {A : Type 0} → (Text → Option A) → Option Text → Result (Option A) BadWords
given named None = Ok None
given named (Some text) = ok_or (option_map Some (named text)) bad_words

unfoldable pub number_option : Text → ℕ → ℕ → List Row → Result (Option ℕ) BadWords
number_option name least most rows =
    given (λ text. between least most (number_of text)) (first_of name rows)

-- the numbers that a mode may need
unfoldable pub numbers_option : List Row → Result Numbers BadWords
numbers_option rows = do
  number ← number_option (codes "number") 1 1000000 rows
  wish ← number_option (codes "wish") 1 2000000000 rows
  school ← number_option (codes "school") 1 2000000000 rows
  Ok (record { number = number; wish = wish; school = school })

-- the mode, which is required
unfoldable pub mode_option : Numbers → List Row → Result Mode BadWords
mode_option numbers rows =
    ok_or (option_and_then (mode_of numbers) (first_of (codes "mode") rows)) bad_words

-- the picker; the first where none is given
unfoldable pub picker_option : List Row → Result PickerChoice BadWords
picker_option rows = do
  picker ← given picker_named (first_of (codes "picker") rows)
  Ok (unwrap_or picker (Same First))

unfoldable pub start_option : List Row → Result (Option ℤ) BadWords
start_option rows = given (λ text. in_start_years (date_in text)) (first_of (codes "start") rows)

-- the date of day 1 and the term of offers are given together or not at all
abbrev pub deadlines_with : Option ℤ → Option ℕ → Result (Option Deadlines) BadWords
deadlines_with None None = Ok None
deadlines_with (Some start) (Some term) = Ok (Some (record { start = start; term = term }))
deadlines_with _ _ = Err bad_words

unfoldable pub deadlines_option : List Row → Result (Option Deadlines) BadWords
deadlines_option rows = do
  start ← start_option rows
  term ← number_option (codes "term") 0 366 rows
  deadlines_with start term

-- each value is tested, whether or not the mode uses its option
unfoldable pub request_in : List Row → Result Request BadWords
request_in rows = do
  numbers ← numbers_option rows
  mode ← mode_option numbers rows
  days ← number_option (codes "days") 1 366 rows
  picker ← picker_option rows
  deadlines ← deadlines_option rows
  Ok (record { mode = mode; days = unwrap_or days 1; picker = picker; deadlines = deadlines })

-- what is asked for; nothing where the command has a fault to name, or a value is bad
abbrev pub where_sound : Kinds → Result Request BadWords → Option Request
where_sound [] (Ok request) = Some request
where_sound [] (Err bad) = None
where_sound (fault ∷ faults) request = None

-- the words with the program's name before them
abbrev pub named_words : List Text → List Text
named_words words = codes "parcours" ∷ words

unfoldable pub request_of_named : List Text → Option Request
request_of_named words =
    where_sound (fault_of parcours words) (request_in (matches_of parcours words))

-- what the words after the program's name ask for; nothing where they are bad
abbrev pub request_of : List Text → Option Request
request_of words = request_of_named (named_words words)

-- a reading answers what is asked for, or that the words are bad; nothing is said of running out of
-- memory
abbrev pub Reads : Result Request WordsRefusal → Option Request → Type 0
Reads (Ok request) asked = asked ≡ Some request
Reads (Err refusals.Bad) asked = asked ≡ None
Reads (Err refusals.OutOfMemory) asked = ⊤

-- a date of day 1: the day before it and all deadlines are dates
pub record IsStart (start : ℤ) : Type 0 where
  pub after_first : (first_day +ℤ pos 1) ≤ℤ start
  pub is_read : start ≤ℤ last_read_day

pub record IsDeadlines (deadlines : Deadlines) : Type 0 where
  pub start : IsStart deadlines.start
  pub term : deadlines.term ≤ 366

-- what is known of a request that was read
pub record IsRequest (request : Request) : Type 0 where
  pub some_day : 1 ≤ request.days
  pub days : request.days ≤ 366
  pub mode : IsMode request.mode
  pub deadlines : IfSome request.deadlines IsDeadlines

-- The final state's lines are read as its statuses and dates.
use Rattle.std.proofs.Common.{ℕ, ◌+◌, ◌<◌, ◌≤◌, ◌≡◌, ◌^◌, Bool, true, false, ◌&&◌, List, [], ◌∷◌, ◌++◌, length, map}
use Rattle.std.proofs.Common.{Option, Some, None, Ok, Err, refl, ◌∙◌, ap, arith, nat_le, nat_lt, codes, lt-ltb, le-leb}
use Rattle.std.specs.Prelude.{ℤ, ◌/◌, ◌%◌, if◌then◌else◌, flat_map, All}
use Rattle.std.specs.Fmt.{decimal}
use Rattle.std.specs.List.{AllByRecursion, enumerate_from, list_all}
use Rattle.std.specs.Char.{is_ascii_digit}
use Rattle.std.specs.Option.{ok_or}
use Rattle.std.specs.Str.Parse.{digits_value}
use Rattle.std.proofs.lemmas.Bool.{and_from}
use Rattle.std.proofs.lemmas.Fmt.{decimal_nonempty, digits_decimal, digits_value-decimal, length-decimal-le}
use Rattle.std.proofs.lemmas.List.FromFn.{length-enumerate_from}
use Rattle.std.proofs.lemmas.List.Elements.{All-head, All-tail}
use Rattle.csv.specs.Reading.{strip_bom}
use Rattle.csv.specs.Records.{field_at}
use Rattle.csv.specs.Writing.{default_writer, row_text}
use Rattle.csv.proofs.RoundTrip.{rows_text}
use Rattle.admit_core.specs.declared.dossier.Wish.{Wish}
use Rattle.admit_core.specs.declared.refusal.Reason.TheVariants.{NotWord, OutOfRange}
use Rattle.admit_core.specs.declared.state.Status.{Status}
use Rattle.admit_core.specs.declared.state.Status.TheVariants as status
use Rattle.admit_core.specs.declared.tables.Since.{Since}
use Rattle.admit_core.specs.declared.tables.StateRow.{StateRow}
use Rattle.admit_core.specs.Answers.{status_at}
use Rattle.admit_core.specs.Lapses.{is_offered}
use Rattle.admit_core.specs.Lines.{status_word}
use Rattle.admit_core.specs.Ranges.{IsNumber}
use Rattle.admit_core.specs.State.{State}
use Rattle.admit_core.specs.Validity.{IsValidWish}
use Rattle.calendar.specs.Dates.{IsRead, date_of}
use Rattle.calendar.specs.Texts.{date_text, text_of, two_digits}
use Rattle.calendar.proofs.TextLaws.{date_in-date_text}
use Rattle.dossier_csv.specs.Columns.{ids, number, number_of, optional_date, optional_date_from, since_of, within, word}
use Rattle.dossier_csv.specs.Rows as Rows
use Rattle.dossier_csv.specs.Rows.{state_row, statuses}
use Rattle.dossier_csv.specs.Shape.{table_of}
use Rattle.dossier_csv.proofs.Digits.{digits}
use Rattle.dossier_csv.proofs.Words.{each_status}
use Rattle.report.specs.DayText.{date_on}
use Rattle.report.specs.FinalText.{dated_row, offer_day_at, since_word, status_row}
use Rattle.report.specs.Words.{row}
use Rattle.text_laws.specs.ReadBack.{FinalDatedTextReadsBack, FinalTextReadsBack, since_when}
use Rattle.text_laws.proofs.ReadRows.{rows_read, rows_written, slot_read}
use Rattle.text_laws.proofs.WrittenRows.{IsPlain, digits_plain, plain_more, row_plain}

-- ---- single fields
big : (n : ℕ) → n ≤ 2000000000 → n < 2 ^ 64
big n most = omega (arith, most)

number_digits : (n : ℕ) → n ≤ 2000000000 → list_all is_ascii_digit (decimal n) ≡ true
number_digits n most = digits_decimal digits n (big n most)

pub number_plain : (n : ℕ) → n ≤ 2000000000 → IsPlain (decimal n)
number_plain n most = digits_plain (decimal n) (number_digits n most)

number_read : (n : ℕ) → n ≤ 2000000000 → number_of (decimal n) ≡ Some n
number_read n most =
    let some = lt-ltb 0 (length (decimal n)) (decimal_nonempty n (big n most)) in
    let few : n < 10 ^ 10 = omega (arith, most) in
    let short = le-leb (length (decimal n)) 10 (length-decimal-le 10 n (omega arith) few (big n most)) in
    let passes = and_from (nat_lt 0 (length (decimal n)) && nat_le (length (decimal n)) 10)
    (list_all is_ascii_digit (decimal n))
    (and_from (nat_lt 0 (length (decimal n))) (nat_le (length (decimal n)) 10) some short) (number_digits n most) in
    ap (λ (b : Bool). if b then Some (digits_value 10 (decimal n)) else None) passes
    ∙ ap Some (digits_value-decimal digits n (big n most))

-- a number within its limits is read as it is
pub number_within : (least most position n : ℕ) → least ≤ n → n ≤ most → n ≤ 2000000000
    → within (record { least = least; most = most }) position (number_of (decimal n)) ≡ Ok n
number_within least most position n from to few =
    let passes = and_from (nat_le least n) (nat_le n most) (le-leb least n from) (le-leb n most to) in
    ap (within (record { least = least; most = most }) position) (number_read n few)
    ∙ ap (λ (b : Bool). if b then Ok n else Err (OutOfRange position)) passes

pub status_plain : (x : Status) → IsPlain (status_word x)
status_plain status.Waiting = refl
status_plain status.Offered = refl
status_plain status.Accepted = refl
status_plain status.Refused = refl
status_plain status.Withdrawn = refl
status_plain status.Quit = refl
status_plain status.AutoRefused = refl
status_plain status.AutoWithdrawn = refl
status_plain status.Lapsed = refl

two_plain : (n : ℕ) (rest : List ℕ) → IsPlain rest → IsPlain (two_digits n ++ rest)
two_plain n rest plain =
    plain_more (48 + n / 10) ((48 + n % 10) ∷ rest) (omega arith) (plain_more (48 + n % 10) rest (omega arith) plain)

pub text_plain : (date : ℕ × ℕ × ℕ) → IsPlain (text_of date)
text_plain date =
    let day = two_digits date.2 in
    let month = two_digits date.1 ++ (45 ∷ day) in
    let year = two_digits (date.0 % 100) ++ (45 ∷ month) in
    two_plain (date.0 / 100) year (two_plain (date.0 % 100) (45 ∷ month) (plain_more 45 month (omega arith)
    (two_plain date.1 (45 ∷ day) (plain_more 45 day (omega arith) (two_plain date.2 [] refl)))))

-- ---- a row
-- the fields of a row that has these words
abbrev pub short_fields : ℕ → Status → List (List ℕ)
short_fields id x = decimal id ∷ status_word x ∷ []

abbrev pub long_fields : ℕ → Status → List ℕ → List (List ℕ)
long_fields id x since = decimal id ∷ status_word x ∷ since ∷ []

pub state_row_by : (fields : List (List ℕ)) (id : ℕ) (x : Status) (since : Option Since) → number ids fields 1 ≡ Ok id
    → word statuses fields 2 ≡ Ok x → optional_date fields 3 ≡ Ok since
    → state_row fields ≡ Ok (record { wish = id; status = x; since = since })
unfolding state_row
state_row_by fields id x since first second third = rw (first, second, third) refl

short_row : (id : ℕ) (x : Status) → IsNumber id
    → state_row (short_fields id x) ≡ Ok (record { wish = id; status = x; since = None })
unfolding number word optional_date field_at
short_row id x is =
    state_row_by (short_fields id x) id x None (number_within 1 2000000000 1 id is.from_one is.at_most is.at_most)
    (ap (λ (o : Option Status). ok_or o (NotWord 2)) (each_status x)) refl

long_row : (id : ℕ) (x : Status) (word : List ℕ) (since : Option Since) → IsNumber id
    → optional_date_from 3 word ≡ Ok since
    → state_row (long_fields id x word) ≡ Ok (record { wish = id; status = x; since = since })
unfolding number word optional_date field_at
long_row id x word since is dated =
    state_row_by (long_fields id x word) id x since (number_within 1 2000000000 1 id is.from_one is.at_most is.at_most)
    (ap (λ (o : Option Status). ok_or o (NotWord 2)) (each_status x)) dated

date_read : (n : ℤ) → IsRead n → optional_date_from 3 (date_text n) ≡ Ok (Some (since_of (date_of n)))
date_read n is = rw (date_in-date_text n is) refl

-- ---- many rows
-- what holds of each wish at its place
each_placed : (P : ℕ × Wish → Type 0) (Q : Wish → Type 0) (n : ℕ) (ws : List Wish) → All Q ws
    → ((k : ℕ) (w : Wish) → k < n + length ws → Q w → P (k, w)) → AllByRecursion P (enumerate_from n ws)
each_placed P Q n [] all each = tt
each_placed P Q n (w ∷ ws) all each = (
  each n w (omega arith) (All-head Q w ws all),
  each_placed P Q (n + 1) ws (All-tail Q w ws all) (λ k v lt. each k v (omega (arith, lt))),
)

-- ---- without dates
abbrev short_of : State → ℕ × Wish → List (List ℕ)
short_of s x = short_fields x.1.id (status_at s x.0)

abbrev short_made : State → ℕ × Wish → StateRow
short_made s x = record { wish = x.1.id; status = status_at s x.0; since = None }

abbrev short_header : List (List ℕ)
short_header = codes "wish" ∷ codes "status" ∷ []

short_written : (s : State) (x : ℕ × Wish) → IsNumber x.1.id → status_row s x ≡ row_text default_writer (short_of s x)
short_written s x is =
    let word = status_word (status_at s x.0) in
    row_plain (decimal x.1.id) word []
    (number_plain x.1.id is.at_most, (status_plain (status_at s x.0), tt))

short_text : (s : State) (xs : List (ℕ × Wish))
    → AllByRecursion (λ x. status_row s x ≡ row_text default_writer (short_of s x)) xs
    → row short_header ++ flat_map (status_row s) xs ≡ rows_text (short_header ∷ map (short_of s) xs)
unfolding rows_text
short_text s xs all =
    λ i. row_plain (codes "wish") (codes "status") [] (refl, (refl, tt)) i
    ++ rows_written (short_of s) (status_row s) xs all i

pub final_text_reads_back : FinalTextReadsBack
unfolding strip_bom table_of
final_text_reads_back s valid =
    let ws = s.dossier.wishes in
    let xs = enumerate_from 0 ws in
    let written = each_placed (λ x. status_row s x ≡ row_text default_writer (short_of s x))
    (IsValidWish s.dossier) 0 ws valid.wishes (λ k w lt is. short_written s (k, w) is.id) in
    slot_read (short_of s) Rows.state short_header (short_made s) xs
    (row short_header ++ flat_map (status_row s) xs) refl
    (short_text s xs written) refl (λ x. refl) refl
    (rows_read (short_of s) Rows.state 2 2 (short_made s) xs
    (omega (arith, length-enumerate_from 0 ws, valid.size.wishes))
    (each_placed (λ x. (length (short_of s x) ≡ 2) × (state_row (short_of s x) ≡ Ok (short_made s x)))
    (IsValidWish s.dossier) 0 ws valid.wishes (λ k w lt is. (refl, short_row w.id (status_at s k) is.id))))

-- ---- with dates
date_or_none : (b : Bool) (n : ℤ) → IsPlain (if b then date_text n else [])
date_or_none true n = text_plain (date_of n)
date_or_none false n = refl

date_or_none_read : (b : Bool) (n : ℤ) → (b ≡ true → IsRead n)
    → optional_date_from 3 (if b then date_text n else []) ≡ Ok (if b then Some (since_of (date_of n)) else None)
date_or_none_read true n is = date_read n (is refl)
date_or_none_read false n is = refl

module _ (s : State) (start : ℤ) (before : List ℤ) where
  abbrev long_of : ℕ × Wish → List (List ℕ)
  long_of x = long_fields x.1.id (status_at s x.0) (since_word s start before x.0)

  abbrev long_made : ℕ × Wish → StateRow
  long_made x = record { wish = x.1.id; status = status_at s x.0; since = since_when s start before x.0 }

  abbrev long_header : List (List ℕ)
  long_header = codes "wish" ∷ codes "status" ∷ codes "since" ∷ []

  -- of a wish with an id, whose offer's date can be read
  abbrev IsReadable : ℕ × Wish → Type 0
  IsReadable x = IsNumber x.1.id
      × (is_offered (status_at s x.0) ≡ true → IsRead (date_on start (offer_day_at s before x.0)))

  long_written : (x : ℕ × Wish) → IsReadable x → dated_row s start before x ≡ row_text default_writer (long_of x)
  long_written x is =
      let word = status_word (status_at s x.0) in
      row_plain (decimal x.1.id) word (since_word s start before x.0 ∷ []) (
        number_plain x.1.id is.0.at_most,
        (
          status_plain (status_at s x.0),
          (date_or_none (is_offered (status_at s x.0)) (date_on start (offer_day_at s before x.0)), tt),
        ),
      )

  long_text : (xs : List (ℕ × Wish))
      → AllByRecursion (λ x. dated_row s start before x ≡ row_text default_writer (long_of x)) xs
      → row long_header ++ flat_map (dated_row s start before) xs ≡ rows_text (long_header ∷ map long_of xs)
  unfolding rows_text
  long_text xs all =
      λ i. row_plain (codes "wish") (codes "status") (codes "since" ∷ []) (refl, (refl, (refl, tt))) i
      ++ rows_written long_of (dated_row s start before) xs all i

pub final_dated_text_reads_back : FinalDatedTextReadsBack
unfolding strip_bom table_of
final_dated_text_reads_back s start before valid dates =
    let ws = s.dossier.wishes in
    let xs = enumerate_from 0 ws in
    let fields = long_of s start before in
    let made = long_made s start before in
    let written = each_placed (λ x. dated_row s start before x ≡ row_text default_writer (fields x))
    (IsValidWish s.dossier) 0 ws valid.wishes
    (λ k w lt is. long_written s start before (k, w) (is.id, dates k (omega (arith, lt)))) in
    slot_read fields Rows.state (long_header s start before) made xs
    (row (long_header s start before) ++ flat_map (dated_row s start before) xs) refl
    (long_text s start before xs written) refl (λ x. refl) refl
    (rows_read fields Rows.state 3 2 made xs (omega (arith, length-enumerate_from 0 ws, valid.size.wishes))
    (each_placed (λ x. (length (fields x) ≡ 3) × (state_row (fields x) ≡ Ok (made x))) (IsValidWish s.dossier) 0 ws
    valid.wishes
    (λ k w lt is. (
      refl,
      long_row w.id (status_at s k) (since_word s start before k) (since_when s start before k) is.id
          (date_or_none_read (is_offered (status_at s k)) (date_on start (offer_day_at s before k))
          (dates k (omega (arith, lt)))),
    ))))

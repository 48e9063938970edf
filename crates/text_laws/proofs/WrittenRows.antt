-- Rows of plain fields, written one after another, are read as these rows.
use Rattle.std.proofs.Common.{ℕ, suc, zero, ◌+◌, ◌<◌, ◌≤◌, ◌≡◌, true, false, List, [], ◌∷◌, ◌++◌, length, map, refl}
use Rattle.std.proofs.Common.{sym, ◌∙◌, ap, arith}
use Rattle.std.specs.Prelude.{if◌then◌else◌}
use Rattle.std.specs.List.{AllByRecursion, list_all, list_any}
use Rattle.std.specs.Char.{is_ascii_digit}
use Rattle.std.proofs.lemmas.Bool.{and_parts}
use Rattle.std.proofs.lemmas.Bool.Decides.{nat_tests}
use Rattle.std.proofs.lemmas.List.{length-append, append_assoc}
use Rattle.csv.specs.Machine.{next_record}
use Rattle.csv.specs.Reading.{default_config, records_from}
use Rattle.csv.specs.Writing.{default_writer, field_text, fields_text, is_blank, needs_byte, read_back, row_body}
use Rattle.csv.specs.Writing.{row_text}
use Rattle.csv.specs.declared.parser.State.TheVariants as st
use Rattle.csv.proofs.RoundTrip.{read-write, rows_text}
use Rattle.report.specs.Words.{further, row}

-- a field that is written as it stands
abbrev pub IsPlain : List ℕ → Type 0
IsPlain field = list_any (needs_byte default_writer) field ≡ false

plain_byte : (b : ℕ) → 45 ≤ b → needs_byte default_writer b ≡ false
plain_byte b le = grind (arith, nat_tests, le)

pub plain_more : (b : ℕ) (bs : List ℕ) → 45 ≤ b → IsPlain bs → IsPlain (b ∷ bs)
plain_more b bs le plain = rw (plain_byte b le) plain

pub digits_plain : (bs : List ℕ) → list_all is_ascii_digit bs ≡ true → IsPlain bs
digits_plain [] all = refl
digits_plain (b ∷ bs) all =
    let parts = and_parts (is_ascii_digit b) (list_all is_ascii_digit bs) all in
    let le : 45 ≤ b = grind (arith, nat_tests, parts.0) in
    plain_more b bs le (digits_plain bs parts.1)

-- ---- the text of a row
field_plain : (field : List ℕ) → IsPlain field → field_text default_writer field ≡ field
field_plain field plain = rw plain refl

more_plain : (fields : List (List ℕ)) → AllByRecursion IsPlain fields
    → further 44 fields ≡ fields_text default_writer fields ++ (10 ∷ [])
unfolding fields_text
more_plain [] all = refl
more_plain (field ∷ fields) all =
    ap (λ l. 44 ∷ (field ++ l)) (more_plain fields all.1)
    ∙ ap (λ l. 44 ∷ l) (sym (append_assoc field (fields_text default_writer fields) (10 ∷ [])))
    ∙ ap (λ f. 44 ∷ ((f ++ fields_text default_writer fields) ++ (10 ∷ []))) (sym (field_plain field all.0))

pub row_plain : (x y : List ℕ) (ys : List (List ℕ)) → AllByRecursion IsPlain (x ∷ y ∷ ys)
    → row (x ∷ y ∷ ys) ≡ row_text default_writer (x ∷ y ∷ ys)
unfolding is_blank
row_plain x y ys all =
    ap (λ l. x ++ l) (more_plain (y ∷ ys) all.1)
    ∙ sym (append_assoc x (fields_text default_writer (y ∷ ys)) (10 ∷ []))
    ∙ ap (λ f. (f ++ fields_text default_writer (y ∷ ys)) ++ (10 ∷ [])) (sym (field_plain x all.0))

-- ---- the records of many rows
row_long : (fields : List (List ℕ)) → 1 ≤ length (row_text default_writer fields)
row_long fields =
    let blank : List ℕ = if is_blank default_writer fields then 34 ∷ 34 ∷ [] else [] in
    omega (arith, length-append (row_body default_writer fields) (blank ++ (10 ∷ [])), length-append blank (10 ∷ []))

rows_long : (rows : List (List (List ℕ))) → length rows ≤ length (rows_text rows)
unfolding rows_text
rows_long [] = omega arith
rows_long (fields ∷ rows) =
    omega (arith, length-append (row_text default_writer fields) (rows_text rows), row_long fields, rows_long rows)

records_of_rows : (rows : List (List (List ℕ))) (turns : ℕ) → length rows < turns
    → records_from default_config turns st.StartRecord (rows_text rows) ≡ map read_back rows
unfolding records_from rows_text next_record
records_of_rows rows zero lt = absurd (omega (arith, lt))
records_of_rows [] (suc turns) lt = refl
records_of_rows (fields ∷ rows) (suc turns) lt =
    rw (read-write fields (rows_text rows))
    (ap (λ (l : List (List (List ℕ))). read_back fields ∷ l) (records_of_rows rows turns (omega (arith, lt))))

pub all_records : (rows : List (List (List ℕ)))
    → records_from default_config (length (rows_text rows) + 1) st.StartRecord (rows_text rows) ≡ map read_back rows
all_records rows = records_of_rows rows (length (rows_text rows) + 1) (omega (arith, rows_long rows))

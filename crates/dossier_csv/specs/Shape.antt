-- What the bytes of a slot stand for: its typed rows, or the first refusal.
use Rattle.std.specs.Prelude.{◌≡◌, ℕ, ◌+◌, ◌==◌, Bool, List, [], ◌∷◌, length, Result, Ok, Err, nat_le, nat_eq}
use Rattle.std.specs.Prelude.{if◌then◌else◌}
use Rattle.std.specs.Cmp.Lexicographic.{pointwise}
use Rattle.std.specs.List.{list_any}
use Rattle.csv.specs.Reading.{default_config, records, strip_bom}
use Rattle.admit_core.specs.declared.slot.Slot.{Slot}
use Rattle.admit_core.specs.declared.refusal.Reason.{Reason}
use Rattle.admit_core.specs.declared.refusal.Reason.TheVariants.{Header, FieldCount, TooManyRows}
use Rattle.admit_core.specs.declared.refusal.Refusal.{Refusal}
use Rattle.admit_core.specs.declared.refusal.InFault.{InFault}
use Rattle.admit_core.specs.declared.refusal.InFault.TheVariants.{Refused, OutOfMemory}
use Rattle.dossier_csv.specs.Layout.{Layout}

-- what a row says, by its number and by the width of the header above it
abbrev pub row_of : {A : Type 0} → Layout A → ℕ → ℕ → List (List ℕ) → Result A Reason
row_of layout width number fields =
    if nat_le (16000002) number then Err TooManyRows
    else if length fields == width then layout.row fields
    else Err (FieldCount (length fields))

-- the same, with the slot and the row of a refusal
abbrev pub at_row : {A : Type 0} → Slot → ℕ → Result A Reason → Result A Refusal
at_row slot number (Ok row) = Ok row
at_row slot number (Err reason) = Err (record { slot = slot; row = number; reason = reason })

-- a row in front of others, or the first refusal of all these
abbrev pub with_row : {A : Type 0} → Result A Refusal → Result (List A) Refusal
    → Result (List A) Refusal
with_row (Err refusal) others = Err refusal
with_row (Ok row) (Err refusal) = Err refusal
with_row (Ok row) (Ok rows) = Ok (row ∷ rows)

-- the rows of these records, the first of which has this number
unfoldable pub rows_from : {A : Type 0} → Layout A → ℕ → ℕ → List (List (List ℕ))
    → Result (List A) Refusal
rows_from layout width number [] = Ok []
rows_from layout width number (fields ∷ others) =
    with_row (at_row layout.slot number (row_of layout width number fields))
    (rows_from layout width (number + 1) others)

-- whether two lists of texts are the same
abbrev pub same_texts : List (List ℕ) → List (List ℕ) → Bool
same_texts = pointwise (pointwise nat_eq)

-- the rows under a header, which is row 1
unfoldable pub table_of : {A : Type 0} → Layout A → List (List (List ℕ)) → Result (List A) Refusal
table_of layout [] = at_row layout.slot 1 (Err Header)
table_of layout (first ∷ others) =
    if list_any (same_texts first) layout.headers then rows_from layout (length first) 2 others
    else at_row layout.slot 1 (Err Header)

-- the records of a slot's bytes, without a byte order mark
abbrev pub records_of : List ℕ → List (List (List ℕ))
records_of bytes = records default_config (strip_bom bytes)

-- what a slot's bytes stand for
abbrev pub shape : {A : Type 0} → Layout A → List ℕ → Result (List A) Refusal
shape layout bytes = table_of layout (records_of bytes)

-- what a reader answers is this, unless memory runs out
abbrev pub Refuses : {Y : Type 0} → InFault → Result Y Refusal → Type 0
Refuses OutOfMemory expected = Unit {0}
Refuses (Refused refusal) expected = expected ≡ Err refusal

abbrev pub Answers : {X Y : Type 0} → (X → Y) → Result X InFault → Result Y Refusal → Type 0
Answers view (Ok x) expected = expected ≡ Ok (view x)
Answers view (Err fault) expected = Refuses fault expected

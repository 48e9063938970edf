-- When a row of a slot is refused: a test compares it with the rows before it.
use Rattle.std.specs.Prelude.{ℕ, ◌+◌, Bool, List, [], ◌∷◌, ◌++◌, Option, Some, None, length, map, position, option_map}
use Rattle.std.specs.Prelude.{if◌then◌else◌}
use Rattle.std.specs.Option.{option_or}
use Rattle.admit_core.specs.declared.slot.Slot.{Slot}
use Rattle.admit_core.specs.declared.refusal.Reason.{Reason}
use Rattle.admit_core.specs.declared.refusal.Reason.TheVariants.{Repeat, RankTaken, Unknown}
use Rattle.admit_core.specs.declared.refusal.Refusal.{Refusal}

-- why a row is refused, after the rows before it
abbrev pub Test : Type 0 → Type 0
Test R = List R → R → Option Reason

-- the number of the row at a place: the header is row 1
abbrev pub row_number : ℕ → ℕ
row_number place = place + 2

-- the number of the first row that passes
abbrev pub first_row : {R : Type 0} → (R → Bool) → List R → Option ℕ
first_row passes rows = option_map row_number (position passes rows)

-- the first of a list that is there
abbrev pub first_of : {X : Type 0} → List (Option X) → Option X
first_of [] = None
first_of (x ∷ xs) = option_or x (first_of xs)

-- the reason of the first test that stands
abbrev pub first_reason : {R : Type 0} → List (Test R) → List R → R → Option Reason
first_reason tests before row = first_of (map (λ test. test before row) tests)

-- the refusal of a row after the rows before it
abbrev pub refusal_after : {R : Type 0} → Slot → List (Test R) → List R → R → Option Refusal
refusal_after slot tests before row =
    option_map (λ reason. record { slot = slot; row = row_number (length before); reason = reason })
    (first_reason tests before row)

-- what f gives of each row with all rows before it
abbrev pub each_after : {R X : Type 0} → (List R → R → X) → List R → List R → List X
each_after f before [] = []
each_after f before (row ∷ rows) = f before row ∷ each_after f (before ++ row ∷ []) rows

-- the first of the rows after `before` that a test refuses
unfoldable pub first_after : {R : Type 0} → Slot → List (Test R) → List R → List R → Option Refusal
first_after slot tests before rows = first_of (each_after (refusal_after slot tests) before rows)

-- the first row that a test refuses
abbrev pub first_in : {R : Type 0} → Slot → List (Test R) → List R → Option Refusal
first_in slot tests rows = first_after slot tests [] rows

-- an earlier row is the same
abbrev pub repeats : {R : Type 0} → (R → R → Bool) → Test R
repeats same before row = option_map Repeat (first_row (same row) before)

-- an earlier row has the same rank in the same list
abbrev pub takes_rank : {R : Type 0} → (R → R → Bool) → Test R
takes_rank same before row = option_map RankTaken (first_row (same row) before)

-- what the row names in a field is not there
abbrev pub names_unknown : {R : Type 0} → ℕ → (R → Bool) → Test R
names_unknown field is_known before row = if is_known row then None else Some (Unknown field)

-- What calls do to the bytes that a shelf has left and a sink holds, where these are told, and to
-- the numbers of bytes taken, which are always told.
use Rattle.std.specs.Prelude.{◌≡◌, ◌≢◌, ℕ, ◌<◌, ◌≤◌, List, [], length, take, Option, None, Some, Result, MatchResult, ⊤}
use Rattle.std.specs.Io.KnownBytes.{Appends, Consumes}
use Rattle.admit_core.specs.declared.slot.Slot.{Slot}
use Rattle.slot_io.specs.Faults.{Counted}

-- the slots other than this one have what they had
abbrev pub OthersKept : {T : Type 0} → Slot → (Slot → T) → (Slot → T) → Type 0
OthersKept slot before now = (other : Slot) → other ≢ slot → now other ≡ before other

-- these are all the bytes that were left, and nothing is left now
abbrev pub TakesAll : Option (List ℕ) → Option (List ℕ) → List ℕ → Type 0
TakesAll None after bytes = ⊤
TakesAll (Some left) after bytes = (bytes ≡ left) × (after ≡ Some [])

-- bytes were taken from the front, at most so many
abbrev pub TakesAtMost : ℕ → Option (List ℕ) → Option (List ℕ) → Type 0
TakesAtMost most before after =
    (taken : List ℕ) × (length taken ≤ most) × Consumes before after taken

-- bytes were taken from the front, more than so many
abbrev pub TakesMoreThan : ℕ → Option (List ℕ) → Option (List ℕ) → Type 0
TakesMoreThan limit before after =
    (taken : List ℕ) × (limit < length taken) × Consumes before after taken

-- a read counted the bytes that it gave at `Ok(n)`, and none at `Err`
abbrev pub CountsTaken : {E : Type 0} → Result ℕ E → ℕ → ℕ → Type 0
CountsTaken result before now =
    MatchResult result (λ count. Counted count before now) (λ _. now ≡ before)

-- the first of the bytes were appended, and not all of them
abbrev pub AppendsPart : Option (List ℕ) → Option (List ℕ) → List ℕ → Type 0
AppendsPart before after bytes =
    (count : ℕ) × (count < length bytes) × Appends before after (take count bytes)

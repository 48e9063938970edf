-- What a check answers.
use Rattle.std.specs.Prelude.{◌≡◌, ℕ, List, [], ◌∷◌, Option, Some, None, Result, Ok, Err, drop, slice_get, take, ⊤}
use Rattle.admit_core.specs.declared.refusal.Refusal.{Refusal}
use Rattle.admit_core.specs.declared.refusal.InFault.{InFault}
use Rattle.admit_core.specs.declared.refusal.InFault.TheVariants.{Refused, OutOfMemory}
use Rattle.admit_core.specs.declared.slot.Slot.{Slot}
use Rattle.admit_core.specs.declared.slot.Slot.TheVariants as slots
use Rattle.admit_core.specs.declared.tables.Tables.{Tables}
use Rattle.admit_core.specs.Faults.{Test, first_after, first_in, first_of}
use Rattle.admit_core.specs.Relations.{group_tests, programme_tests, school_tests, ranking_tests, boarding_tests}
use Rattle.admit_core.specs.Relations.{wish_tests, state_tests, ceiling_tests, answer_tests}

-- exactly the fault, or a value where there is none; want of memory may come at any time
abbrev pub AnswersFault : {A : Type 0} → Result A InFault → Option Refusal → Type 0
AnswersFault (Ok a) fault = fault ≡ None
AnswersFault (Err (Refused refusal)) fault = fault ≡ Some refusal
AnswersFault (Err OutOfMemory) fault = Unit {0}

-- want of memory comes only where memory is taken
abbrev pub MayLack : {A : Type 0} → Type 0 → Result A InFault → Type 0
MayLack takes (Ok a) = ⊤
MayLack takes (Err (Refused refusal)) = ⊤
MayLack takes (Err OutOfMemory) = takes

-- a row of a slot at which the tests may lack memory: none before it is refused
pub record LacksAt {R : Type 0} (lacks : List (Test R) → List R → R → Type 0) (slot : Slot) (tests : List (Test R))
    (rows : List R) : Type 0 where
  pub place : ℕ
  pub row : R
  pub there : slice_get rows place ≡ Some row
  pub before : first_in slot tests rows ≡ first_after slot tests (take place rows) (drop place rows)
  pub here : lacks tests (take place rows) row

-- the first fault of the groups, the programmes and the schools
unfoldable pub first_in_named : Tables → Option Refusal
first_in_named t =
    first_of (
    first_in slots.Groups group_tests t.groups
    ∷ first_in slots.Programmes (programme_tests t) t.programmes
    ∷ first_in slots.Schools school_tests t.schools
    ∷ []
    )

-- the first fault of the rankings and of the boarding ranks
unfoldable pub first_in_ranks : Tables → Option Refusal
first_in_ranks t =
    first_of (
    first_in slots.Rankings (ranking_tests t) t.rankings
    ∷ first_in slots.Boarding (boarding_tests t) t.boarding
    ∷ []
    )

-- the first fault of the slots from the wishes on
unfoldable pub first_from_wishes : Tables → Option Refusal
first_from_wishes t =
    first_of (
    first_in slots.Wishes (wish_tests t) t.wishes
    ∷ first_in slots.State (state_tests t) t.state
    ∷ first_in slots.Ceilings (ceiling_tests t) t.ceilings
    ∷ first_in slots.Answers (answer_tests t) t.answers
    ∷ []
    )

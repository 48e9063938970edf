-- What the pickers of a run have told, and how each of them chooses.
use Rattle.std.specs.Prelude.{◌≡◌, ℕ, ◌++◌, Bool, true, false, List, [], Option, IsSome, filter, flat_map}
use Rattle.std.specs.Option.{option_map_or}
use Rattle.std.specs.declared.alloc.Global.{Global}
use Rattle.std.specs.declared.dyn_box.DynBox.{DynBox}
use Rattle.admit_core.specs.declared.records.DayRecord.{DayRecord}
use Rattle.desk_day.specs.DayPasses.{TellsMore, schools_of_passes}
use Rattle.request.specs.Pickers.{picker_on}
use Rattle.request.specs.declared.pickers.PickerChoice.{PickerChoice}
use Rattle.request.specs.declared.pickers.PickerName.{PickerName}
use Rattle.request.specs.declared.pickers.PickerName.TheVariants.{First, Last, Turn}
use Rattle.played.specs.declared.pickers.Pickers.{Pickers}

-- of each picker what it has told, and what it answers, by what it has told and the places it is
-- asked with
pub record Lent : Type 0 where
  pub told : PickerName → List ℕ
  pub choice : PickerName → List ℕ → List ℕ → ℕ

-- the one of three that has the name
abbrev pub named : {A : Type 0} → A → A → A → PickerName → A
named first last turn First = first
named first last turn Last = last
named first last turn Turn = turn

-- all three pickers are there
pub record AreThere {X : Type 0} {F : X → Type 0} (pickers : Pickers X F) : Type 0 where
  pub first : IsSome pickers.first
  pub last : IsSome pickers.last
  pub turn : IsSome pickers.turn

-- what a picker has told, and how it chooses, where it is there
abbrev pub told_in : {B : Type 0} → (B → List ℕ) → Option B → List ℕ
told_in told place = option_map_or told place []

abbrev pub choice_in : {B : Type 0} → (B → List ℕ → List ℕ → ℕ) → Option B → List ℕ → List ℕ → ℕ
choice_in choice place = option_map_or choice place (λ told places. 0)

-- the pickers as they stand, by what a picker has told and how it chooses
abbrev pub lent : {X : Type 0} {F : X → Type 0} → (DynBox X Global F → List ℕ)
    → (DynBox X Global F → List ℕ → List ℕ → ℕ) → Pickers X F → Lent
lent told choice pickers =
    record {
      told = λ name. told_in told (named pickers.first pickers.last pickers.turn name);
      choice = λ name. choice_in choice (named pickers.first pickers.last pickers.turn name);
    }

-- the same, as the crates above see a picker
abbrev pub standing : {X : Type 0} {F : X → Type 0} → ((x : X) × F x → List ℕ)
    → ((x : X) × F x → List ℕ → List ℕ → ℕ) → Pickers X F → Lent
standing told choice = lent (λ p. told (p.vtable, p.value)) (λ p. choice (p.vtable, p.value))

abbrev pub is_named : PickerName → PickerName → Bool
is_named First First = true
is_named Last Last = true
is_named Turn Turn = true
is_named _ _ = false

-- the schools that fell on the days of a picker, in their order
abbrev pub picked_by : PickerChoice → PickerName → List DayRecord → List ℕ
picked_by who name days = flat_map (λ day. schools_of_passes day.passes)
    (filter (λ day. is_named name (picker_on who day.day)) days)

-- each picker told what it had told, and then of the schools that fell on its days
abbrev pub Told : PickerChoice → List DayRecord → Lent → Lent → Type 0
Told who days before after =
    (name : PickerName) → after.told name ≡ before.told name ++ picked_by who name days

-- no picker was asked
abbrev pub Untold : Lent → Lent → Type 0
Untold before after = (name : PickerName) → after.told name ≡ before.told name

-- in each place is the picker that was lent: it chooses as it did, and what it had told is a prefix
-- of what it tells
pub record AreBack (before after : Lent) : Type 0 where
  pub choice : (name : PickerName) → after.choice name ≡ before.choice name
  pub told : (name : PickerName) → TellsMore (before.told name) (after.told name)

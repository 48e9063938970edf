-- What the words ask for: a slot, and the run after which it is written.
use Rattle.std.specs.Prelude.{◌≡◌, ℕ, Bool, true, false, List, [], ◌∷◌, Option, Some, None, Result, Ok, Err, IsTrue}
use Rattle.std.specs.Prelude.{codes, is_some}
use Rattle.std.specs.Option.{option_and_then}
use Rattle.admit_core.specs.declared.slot.Slot.{Slot}
use Rattle.admit_core.specs.declared.slot.Slot.TheVariants as slots
use Rattle.dossier_csv.specs.Columns.{choice}
use Rattle.request.specs.Request.{IsRequest, request_of}
use Rattle.request.specs.declared.modes.Mode.{Mode}
use Rattle.request.specs.declared.modes.Mode.TheVariants.{Replay}
use Rattle.request.specs.declared.refusal.WordsRefusal.{WordsRefusal}
use Rattle.request.specs.declared.refusal.WordsRefusal.TheVariants as refusals
use Rattle.request.specs.declared.request.Request.{Request}
use Rattle.morning_cli.specs.declared.asked.Asked.{Asked}

-- the slots that a day changes; all others are the same on the next morning
abbrev pub is_daily : Slot → Bool
is_daily slots.Schools = true
is_daily slots.State = true
is_daily slots.Ceilings = true
is_daily slots.Answers = true
is_daily _ = false

abbrev pub slot_named : List ℕ → Option Slot
slot_named =
    choice ((codes "schools", slots.Schools) ∷ (codes "state", slots.State)
    ∷ (codes "ceilings", slots.Ceilings) ∷ (codes "answers", slots.Answers) ∷ [])

-- only a run of `replay` has a morning after it
abbrev pub after_mode : Slot → Request → Mode → Option Asked
after_mode slot request Replay = Some (record { slot = slot; request = request })
after_mode slot request _ = None

abbrev pub asked_with : Slot → Option Request → Option Asked
asked_with slot None = None
asked_with slot (Some request) = after_mode slot request request.mode

-- the first word after the program's name names the slot, and the others are those of a run of
-- `parcours`
abbrev pub asked_of : List (List ℕ) → Option Asked
asked_of [] = None
asked_of (word ∷ others) =
    option_and_then (λ slot. asked_with slot (request_of others)) (slot_named word)

-- the same by a reading of the request: where it has no morning after it, the words are bad
abbrev pub or_bad : Option Asked → Result Asked WordsRefusal
or_bad (Some asked) = Ok asked
or_bad None = Err refusals.Bad

abbrev pub asked_by : Slot → Result Request WordsRefusal → Result Asked WordsRefusal
asked_by slot (Ok request) = or_bad (asked_with slot (Some request))
asked_by slot (Err refusal) = Err refusal

-- whether the first word names such a slot
abbrev pub names_slot : List (List ℕ) → Bool
names_slot [] = false
names_slot (word ∷ others) = is_some (slot_named word)

-- a reading answers what is asked for, or that the words are bad; memory runs out only where the
-- first word names a slot
abbrev pub ReadsAsked : Result Asked WordsRefusal → List (List ℕ) → Type 0
ReadsAsked (Ok x) words = asked_of words ≡ Some x
ReadsAsked (Err refusals.Bad) words = asked_of words ≡ None
ReadsAsked (Err refusals.OutOfMemory) words = IsTrue (names_slot words)

-- what is known of what was read
pub record IsAsked (asked : Asked) : Type 0 where
  pub daily : IsTrue (is_daily asked.slot)
  pub request : IsRequest asked.request
  pub replay : asked.request.mode ≡ Replay

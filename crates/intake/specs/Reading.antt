-- What the bytes of slots stand for, or why they are refused.
use Rattle.std.specs.Prelude.{ℕ, List, [], ◌∷◌, length, Option, Some, None, Result, Ok, Err, nat_lt, if◌then◌else◌}
use Rattle.std.specs.Result.{result_map_both}
use Rattle.admit_core.specs.declared.refusal.Reason.TheVariants.{TooLarge}
use Rattle.admit_core.specs.declared.refusal.Refusal.{Refusal}
use Rattle.admit_core.specs.declared.slot.Slot.{Slot}
use Rattle.admit_core.specs.declared.slot.Slot.TheVariants.{Groups, Programmes, Schools, Rankings, Boarding, Wishes}
use Rattle.admit_core.specs.declared.slot.Slot.TheVariants.{State, Ceilings, Answers, Chain}
use Rattle.admit_core.specs.declared.tables.Tables.{Tables}
use Rattle.dossier_csv.specs.Rows as Rows
use Rattle.dossier_csv.specs.Shape.{shape}
use Rattle.sample_gen.specs.Samples.{sample_tables}
use Rattle.request.specs.Modes.{sample_of, slots_of}
use Rattle.request.specs.declared.modes.Mode.{Mode}
use Rattle.intake.specs.Stops.{◌>>=◌, refused_as}
use Rattle.intake.specs.declared.files.Files.{Files}
use Rattle.intake.specs.declared.stop.Stop.{Stop}
use Rattle.intake.specs.declared.stop.Stop.TheVariants as stops

-- the bytes of a slot that is not too large
unfoldable pub sized : Slot → List ℕ → Result (List ℕ) Stop
sized slot bytes =
    if nat_lt 1073741824 (length bytes)
    then Err (stops.Refused (record { slot = slot; row = 0; reason = TooLarge }))
    else Ok bytes

-- tables made of a slot's rows
abbrev pub made_by : {A : Type 0} → (List A → Tables) → Result (List A) Refusal
    → Result Tables Refusal
made_by make rows = result_map_both make (λ refusal. refusal) rows

-- the tables with the rows that the bytes of one slot stand for; the chain slot has none
unfoldable pub with_rows : Tables → Slot → List ℕ → Result Tables Refusal
with_rows tables Groups bytes =
    made_by (λ rows. record tables { groups = rows }) (shape Rows.groups bytes)
with_rows tables Programmes bytes =
    made_by (λ rows. record tables { programmes = rows }) (shape Rows.programmes bytes)
with_rows tables Schools bytes =
    made_by (λ rows. record tables { schools = rows }) (shape Rows.schools bytes)
with_rows tables Rankings bytes =
    made_by (λ rows. record tables { rankings = rows }) (shape Rows.rankings bytes)
with_rows tables Boarding bytes =
    made_by (λ rows. record tables { boarding = rows }) (shape Rows.boarding bytes)
with_rows tables Wishes bytes =
    made_by (λ rows. record tables { wishes = rows }) (shape Rows.wishes bytes)
with_rows tables State bytes =
    made_by (λ rows. record tables { state = rows }) (shape Rows.state bytes)
with_rows tables Ceilings bytes =
    made_by (λ rows. record tables { ceilings = rows }) (shape Rows.ceilings bytes)
with_rows tables Answers bytes =
    made_by (λ rows. record tables { answers = rows }) (shape Rows.answers bytes)
with_rows tables Chain bytes = Ok tables

-- the chain's bytes after those of a slot
abbrev pub chain_after : List ℕ → Slot → List ℕ → List ℕ
chain_after chain Chain bytes = bytes
chain_after chain _ bytes = chain

-- the files with what the bytes of one slot stand for
unfoldable pub with_slot : Files → Slot → List ℕ → Result Files Refusal
with_slot files slot bytes =
    result_map_both
    (λ tables. record { tables = tables; chain = chain_after files.chain slot bytes })
    (λ refusal. refusal) (with_rows files.tables slot bytes)

-- the files with what these slots stand for, in their order: of each slot the size is tested, and
-- then the shape
unfoldable pub with_slots : Files → List Slot → (Slot → List ℕ) → Result Files Stop
with_slots files [] slots = Ok files
with_slots files (slot ∷ others) slots = do
  bytes ← sized slot (slots slot)
  more ← refused_as (with_slot files slot bytes)
  with_slots more others slots

abbrev pub no_rows : Tables
no_rows =
    record {
      groups = [];
      programmes = [];
      schools = [];
      rankings = [];
      boarding = [];
      wishes = [];
      state = [];
      ceilings = [];
      answers = [];
    }

abbrev pub no_files : Files
no_files = record { tables = no_rows; chain = [] }

-- the files of the slots that are read; the others count as empty
abbrev pub files_in : List Slot → (Slot → List ℕ) → Result Files Stop
files_in order slots = with_slots no_files order slots

-- the files of a sample
abbrev pub made : ℕ → Result Files Stop
made number = Ok (record { tables = sample_tables number; chain = [] })

-- the files of a sample, or of the slots that are read
abbrev pub made_or_read : Option ℕ → List Slot → (Slot → List ℕ) → Result Files Stop
made_or_read (Some number) order slots = made number
made_or_read None order slots = files_in order slots

-- the files that a mode is about
unfoldable pub files_of : Mode → (Slot → List ℕ) → Result Files Stop
files_of mode slots = made_or_read (sample_of mode) (slots_of mode) slots

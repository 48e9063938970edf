-- The texts of the slots, read.
use Rattle.std.specs.Prelude.{◌≡◌, Bool, true, false, All, None, Ok}
use Rattle.admit_core.specs.Ranges.{AreTables}
use Rattle.admit_core.specs.declared.slot.Slot.TheVariants as slots
use Rattle.admit_core.specs.declared.tables.StateRow.{StateRow}
use Rattle.admit_core.specs.declared.tables.Tables.{Tables}
use Rattle.dossier_csv.specs.Rows as Rows
use Rattle.dossier_csv.specs.Shape.{shape}
use Rattle.slot_text.specs.Texts.{slot_text}

-- the date of a row can be written and read; where a state has no dates, it has none
abbrev pub HasDate : Bool → StateRow → Type 0
HasDate true row = Rows.IsDatedRow row
HasDate false row = row.since ≡ None

-- each slot's text stands for the rows
pub record AreReadBack (dated : Bool) (t : Tables) : Type 0 where
  pub groups : shape Rows.groups (slot_text dated t slots.Groups) ≡ Ok t.groups
  pub programmes : shape Rows.programmes (slot_text dated t slots.Programmes) ≡ Ok t.programmes
  pub schools : shape Rows.schools (slot_text dated t slots.Schools) ≡ Ok t.schools
  pub rankings : shape Rows.rankings (slot_text dated t slots.Rankings) ≡ Ok t.rankings
  pub boarding : shape Rows.boarding (slot_text dated t slots.Boarding) ≡ Ok t.boarding
  pub wishes : shape Rows.wishes (slot_text dated t slots.Wishes) ≡ Ok t.wishes
  pub state : shape Rows.state (slot_text dated t slots.State) ≡ Ok t.state
  pub ceilings : shape Rows.ceilings (slot_text dated t slots.Ceilings) ≡ Ok t.ceilings
  pub answers : shape Rows.answers (slot_text dated t slots.Answers) ≡ Ok t.answers

-- so it is for all tables in their ranges
abbrev pub SlotsReadBack : Type 0
SlotsReadBack =
    (dated : Bool) (t : Tables)
    → AreTables t
    → All (HasDate dated) t.state
    → AreReadBack dated t

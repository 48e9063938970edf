-- What of a record its text tells: places of the dossier, and numbers of 32 bits.
use Rattle.std.specs.Prelude.{◌≡◌, ℕ, ◌≤◌, ◌<◌, List, All, length, map, nat_eq}
use Rattle.std.specs.List.{IsDistinct}
use Rattle.admit_core.specs.Answers.{status_at}
use Rattle.admit_core.specs.DossierRows.{DossierRows}
use Rattle.admit_core.specs.State.{State}
use Rattle.admit_core.specs.declared.records.DayRecord.{DayRecord}
use Rattle.admit_core.specs.declared.records.Fall.{Fall}
use Rattle.admit_core.specs.declared.records.PassEnd.{PassEnd}
use Rattle.admit_core.specs.declared.state.Change.{Change}
use Rattle.admit_core.specs.declared.state.Freed.{Freed}
use Rattle.admit_core.specs.Validity.{IsValid}
use Rattle.report.specs.DayText.{IsFallOf}

-- a number of 32 bits
abbrev pub IsSmall : ℕ → Type 0
IsSmall n = n ≤ 4294967295

-- ids of 32 bits, none of which stands twice
pub record AreNames (ids : List ℕ) : Type 0 where
  pub small : All IsSmall ids
  pub distinct : IsDistinct nat_eq ids

-- no two groups, programmes, schools or wishes of the dossier have one id
pub record HasNames (d : DossierRows) : Type 0 where
  pub groups : AreNames (map (λ g. g.id) d.groups)
  pub programmes : AreNames (map (λ p. p.id) d.programmes)
  pub schools : AreNames (map (λ h. h.id) d.schools)
  pub wishes : AreNames (map (λ w. w.id) d.wishes)

-- the place of a wish
abbrev pub IsWishOf : DossierRows → ℕ → Type 0
IsWishOf d place = place < length d.wishes

-- a number of 32 bits for each item
pub record IsNumberEach {X : Type 0} (items : List X) (numbers : List ℕ) : Type 0 where
  pub one_each : length numbers ≡ length items
  pub small : All IsSmall numbers

pub record IsToldFall (d : DossierRows) (fall : Fall) : Type 0 where
  pub places : IsFallOf d fall
  pub from : IsSmall fall.from
  pub to : IsSmall fall.to

pub record IsToldFreed (freed : Freed) : Type 0 where
  pub seats : IsSmall freed.seats
  pub beds : IsSmall freed.beds

abbrev pub IsToldAuto : DossierRows → Change → Type 0
IsToldAuto d change = IsWishOf d change.wish

-- a bar for each school
pub record IsToldPass (d : DossierRows) (end : PassEnd) : Type 0 where
  pub falls : All (IsToldFall d) end.pass.falls
  pub bars : IsNumberEach d.schools end.pass.bars
  pub offers : All (IsWishOf d) end.pass.offers
  pub autos : All (IsToldAuto d) end.autos
  pub freed : IsToldFreed end.freed

-- seats that are left for each programme, and beds for each school
pub record HasNumbers (d : DossierRows) (told : DayRecord) : Type 0 where
  pub left : IsNumberEach d.programmes told.left
  pub free : IsNumberEach d.schools told.free

pub record IsToldDay (d : DossierRows) (told : DayRecord) : Type 0 where
  pub day : IsSmall told.day
  pub passes : All (IsToldPass d) told.passes
  pub evening : HasNumbers d told

-- the wishes of the dossier have the same statuses
abbrev pub HaveSameStatuses : DossierRows → State → State → Type 0
HaveSameStatuses d s t =
    (place : ℕ) → place < length d.wishes → status_at s place ≡ status_at t place

-- a valid dossier has such ids
abbrev pub ValidDossiersHaveNames : Type 0
ValidDossiersHaveNames = (d : DossierRows) → IsValid d → HasNames d

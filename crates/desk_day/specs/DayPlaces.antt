-- The places that a day's record gives are those of the dossier.
use Rattle.std.specs.Prelude.{◌≡◌, ◌<◌, ℕ, List, length, All}
use Rattle.admit_core.specs.declared.records.DayRecord.{DayRecord}
use Rattle.admit_core.specs.declared.records.Fall.{Fall}
use Rattle.admit_core.specs.declared.records.PassEnd.{PassEnd}
use Rattle.admit_core.specs.DossierRows.{DossierRows}

-- wishes are given by their places
abbrev pub AreWishesOf : DossierRows → List ℕ → Type 0
AreWishesOf d wishes = All (λ w. w < length d.wishes) wishes

pub record IsFallIn (d : DossierRows) (fall : Fall) : Type 0 where
  pub school : fall.school < length d.schools
  pub wishes : AreWishesOf d fall.wishes

pub record IsPassIn (d : DossierRows) (end : PassEnd) : Type 0 where
  pub bars : length end.pass.bars ≡ length d.schools
  pub falls : All (IsFallIn d) end.pass.falls
  pub offers : AreWishesOf d end.pass.offers
  pub autos : All (λ c. c.wish < length d.wishes) end.autos

-- each school has a bar and free beds, and each programme has seats left
pub record IsDayIn (d : DossierRows) (done : DayRecord) : Type 0 where
  pub lapsed : All (λ l. l.wish < length d.wishes) done.lapsed
  pub passes : All (IsPassIn d) done.passes
  pub left : length done.left ≡ length d.programmes
  pub free : length done.free ≡ length d.schools

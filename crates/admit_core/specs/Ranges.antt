-- The numbers that each column of the slots may have.
use Rattle.std.specs.Prelude.{ℕ, ◌≤◌, List, length, All}
use Rattle.std.specs.Option.{ForSome}
use Rattle.admit_core.specs.declared.tables.GroupRow.{GroupRow}
use Rattle.admit_core.specs.declared.tables.ProgrammeRow.{ProgrammeRow}
use Rattle.admit_core.specs.declared.tables.SchoolRow.{SchoolRow}
use Rattle.admit_core.specs.declared.tables.RankRow.{RankRow}
use Rattle.admit_core.specs.declared.tables.BoardRow.{BoardRow}
use Rattle.admit_core.specs.declared.tables.WishRow.{WishRow}
use Rattle.admit_core.specs.declared.tables.StateRow.{StateRow}
use Rattle.admit_core.specs.declared.tables.CeilingRow.{CeilingRow}
use Rattle.admit_core.specs.declared.tables.AnswerRow.{AnswerRow}
use Rattle.admit_core.specs.declared.tables.Tables.{Tables}

-- an id or a rank
pub record IsNumber (n : ℕ) : Type 0 where
  pub from_one : 1 ≤ n
  pub at_most : n ≤ 2000000000

-- a day of a campaign
pub record IsDay (n : ℕ) : Type 0 where
  pub from_one : 1 ≤ n
  pub at_most : n ≤ 366

pub record IsGroupRow (r : GroupRow) : Type 0 where
  pub id : IsNumber r.id
  pub scholar_pct : r.scholar_pct ≤ 100
  pub resident_pct : r.resident_pct ≤ 100

pub record IsProgrammeRow (r : ProgrammeRow) : Type 0 where
  pub id : IsNumber r.id
  pub group : IsNumber r.group
  pub seats : r.seats ≤ 2000000000
  pub limit : r.limit ≤ 2000000000

pub record IsSchoolRow (r : SchoolRow) : Type 0 where
  pub id : IsNumber r.id
  pub beds : r.beds ≤ 2000000000
  pub ceiling : r.ceiling ≤ 2000000000

pub record IsRankRow (r : RankRow) : Type 0 where
  pub group : IsNumber r.group
  pub candidate : IsNumber r.candidate
  pub rank : IsNumber r.rank

pub record IsBoardRow (r : BoardRow) : Type 0 where
  pub school : IsNumber r.school
  pub candidate : IsNumber r.candidate
  pub rank : IsNumber r.rank

pub record IsWishRow (r : WishRow) : Type 0 where
  pub id : IsNumber r.id
  pub candidate : IsNumber r.candidate
  pub programme : IsNumber r.programme
  pub school : ForSome r.school IsNumber
  pub preference : r.preference ≤ 2000000000

pub record IsStateRow (r : StateRow) : Type 0 where
  pub wish : IsNumber r.wish

pub record IsCeilingRow (r : CeilingRow) : Type 0 where
  pub day : IsDay r.day
  pub school : IsNumber r.school
  pub ceiling : r.ceiling ≤ 2000000000

pub record IsAnswerRow (r : AnswerRow) : Type 0 where
  pub day : IsDay r.day
  pub target : IsNumber r.target

-- rows of a slot: not too many, and each in the ranges of its columns
pub record AreRows {R : Type 0} (IsRow : R → Type 0) (rows : List R) : Type 0 where
  pub size : length rows ≤ 16000000
  pub each : All IsRow rows

pub record AreTables (t : Tables) : Type 0 where
  pub groups : AreRows IsGroupRow t.groups
  pub programmes : AreRows IsProgrammeRow t.programmes
  pub schools : AreRows IsSchoolRow t.schools
  pub rankings : AreRows IsRankRow t.rankings
  pub boarding : AreRows IsBoardRow t.boarding
  pub wishes : AreRows IsWishRow t.wishes
  pub state : AreRows IsStateRow t.state
  pub ceilings : AreRows IsCeilingRow t.ceilings
  pub answers : AreRows IsAnswerRow t.answers

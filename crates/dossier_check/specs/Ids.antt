-- What an index says.
use Rattle.std.specs.Prelude.{ℕ, ◌≤◌, List, length}
use Rattle.admit_core.specs.declared.tables.Tables.{Tables}
use Rattle.admit_core.specs.Relations.{school_ids, wish_ids}

-- the ids of the wishes and of the schools, by place
pub record Ids : Type 0 where
  pub wishes : List ℕ
  pub schools : List ℕ

pub record IsSmall (ids : Ids) : Type 0 where
  pub wishes : length ids.wishes ≤ 16000000
  pub schools : length ids.schools ≤ 16000000

abbrev pub ids_of : Tables → Ids
ids_of t = record { wishes = wish_ids t; schools = school_ids t }

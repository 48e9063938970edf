-- What the rows of tables are found by.
use Rattle.std.specs.Prelude.{◌≡◌, ℕ, ◌<◌, ◌^◌, List, map, length}
use Rattle.admit_core.specs.declared.tables.Tables.{Tables}
use Rattle.admit_core.specs.Relations.{group_ids, programme_ids, school_ids, wish_ids}
use Rattle.dossier_check.specs.declared.items.Keys.{Keys}
use Rattle.dossier_check.specs.RowsBefore.{boarded_pairs}

-- these are the ids by place, few enough for a place to be a u32
pub record ArePlaces (keys ids : List ℕ) : Type 0 where
  pub same : keys ≡ ids
  pub few : length keys < 2 ^ 32

-- the keys of the rows by place
pub record AreKeysOf (t : Tables) (k : Keys) : Type 0 where
  pub groups : ArePlaces k.groups.keys (group_ids t)
  pub programmes : ArePlaces k.programmes.keys (programme_ids t)
  pub schools : ArePlaces k.schools.keys (school_ids t)
  pub boarding : k.boarding.keys ≡ boarded_pairs t
  pub wishes : ArePlaces k.wishes.keys (wish_ids t)
  pub state : k.state.keys ≡ map (λ s. s.wish) t.state

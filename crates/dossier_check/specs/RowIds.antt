-- The ids of a slot's rows.
use Rattle.std.specs.Prelude.{ℕ, ◌<◌, List, AllPairs}
use Rattle.dossier_check.specs.declared.row_ids.Way.{Way}
use Rattle.dossier_check.specs.declared.row_ids.Way.TheVariants.{Rising, Hashed}

-- each number is less than those after it
abbrev pub Rises : List ℕ → Type 0
Rises ids = AllPairs (λ a b. a < b) ids

-- ids, by place
pub record Listed : Type 0 where
  pub keys : List ℕ

-- the ids that are found in a way, by place
abbrev pub keys_by : Way → List ℕ
keys_by (Rising ids) = ids.items
keys_by (Hashed ids) = ids.keys

abbrev pub IsWay : Way → Type 0
IsWay (Rising ids) = Rises ids.items
IsWay (Hashed ids) = Unit {0}

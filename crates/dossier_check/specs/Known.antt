-- What the slots from the wishes on are tested by.
use Rattle.std.specs.Prelude.{◌≡◌}
use Rattle.admit_core.specs.declared.tables.Tables.{Tables}
use Rattle.admit_core.specs.Relations.{programme_ids, school_ids}
use Rattle.dossier_check.specs.declared.known.Known.{Known}
use Rattle.dossier_check.specs.Dealt.{SaysWhoIsRanked}
use Rattle.dossier_check.specs.Hashing.{numbers_of}
use Rattle.dossier_check.specs.RowsBefore.{boarded_pairs}
use Rattle.keyed_hash.specs.Keys.{keyed_by}

-- the rows before the wishes are found by these, and hashed by a key of all rows
pub record IsKnown (t : Tables) (known : Known) : Type 0 where
  pub keyed : known.keyed ≡ keyed_by (numbers_of t)
  pub programmes : known.programmes.now.keys ≡ programme_ids t
  pub schools : known.schools.now.keys ≡ school_ids t
  pub ranked : SaysWhoIsRanked t known.ranked
  pub boarded : known.boarded.now.keys ≡ boarded_pairs t

-- Why a row is refused that shares its key with an earlier row.
use Rattle.std.specs.Prelude.{ℕ}
use Rattle.admit_core.specs.declared.refusal.Reason.{Reason}
use Rattle.admit_core.specs.declared.refusal.Reason.TheVariants.{Repeat, RankTaken}
use Rattle.dossier_check.specs.declared.row_tests.Shared.{Shared}
use Rattle.dossier_check.specs.declared.row_tests.Shared.TheVariants.{Item, Rank}

abbrev pub reason_of : Shared → ℕ → Reason
reason_of Item = Repeat
reason_of Rank = RankTaken

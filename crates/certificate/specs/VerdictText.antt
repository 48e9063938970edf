-- The line of a day's chain that is not valid.
use Rattle.std.specs.Prelude.{ℕ, List, [], ◌∷◌, codes}
use Rattle.std.specs.Fmt.{decimal}
use Rattle.admit_core.specs.ChainLines.{check_reason_number, check_reason_name}
use Rattle.admit_core.specs.DossierRows.{DossierRows}
use Rattle.admit_core.specs.declared.chain.CheckReason.{CheckReason}
use Rattle.admit_core.specs.declared.chain.CheckReason.TheVariants.{NotOver, WrongWishes, WrongBar, StillOver}
use Rattle.admit_core.specs.declared.chain.CheckReason.TheVariants.{PassMissing, PassExtra}
use Rattle.report.specs.Ids.{school_id}
use Rattle.report.specs.Words.{line}

-- the id of the school that is still overfilled
abbrev pub kept_id : DossierRows → CheckReason → List (List ℕ)
kept_id d NotOver = []
kept_id d WrongWishes = []
kept_id d WrongBar = []
kept_id d (StillOver school) = decimal (school_id d school) ∷ []
kept_id d PassMissing = []
kept_id d PassExtra = []

abbrev pub verdict_text : DossierRows → ℕ → CheckReason → List ℕ
verdict_text d row reason =
    line (codes "not" ∷ codes "proved" ∷ codes "row" ∷ decimal row ∷ codes "reason"
    ∷ decimal (check_reason_number reason) ∷ check_reason_name reason ∷ kept_id d reason)

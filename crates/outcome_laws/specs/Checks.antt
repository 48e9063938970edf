-- What a text of the mode `chain` proves to the mode `check`.
use Rattle.std.specs.Prelude.{◌≡◌, ℕ, ◌≤◌, List, Option, length}
use Rattle.admit_core.specs.Days.{Days, first_evening}
use Rattle.admit_core.specs.DossierRows.{DossierRows}
use Rattle.admit_core.specs.State.{State}
use Rattle.admit_core.specs.Validity.{IsValid}
use Rattle.admit_core.specs.declared.ranking.CallOrder.{CallOrder}
use Rattle.admit_core.specs.declared.records.DayRecord.{DayRecord}
use Rattle.certificate.specs.ChainText.{chain_text}
use Rattle.intake.specs.Dated.{terms_in}
use Rattle.intake.specs.declared.terms.DatedTerms.{DatedTerms}
use Rattle.modes.specs.Checking.{IsChecked, proved_text}
use Rattle.modes.specs.declared.exit.Exit.{Exit}
use Rattle.modes.specs.declared.exit.Exit.TheVariants.{Done}

-- handed in over the same dossier and under the same deadlines, where it fits a slot, the chain of
-- days of the rules ends a check as done: all days are proved, and the state is their evening
abbrev pub OwnTextsAreProved : Type 0
OwnTextsAreProved =
    (d : DossierRows) (dated : Option DatedTerms) (orders : List CallOrder) (days : List DayRecord)
    (evening : State) (exit : Exit) (text : List ℕ)
    → IsValid d
    → length days ≤ 366
    → length (chain_text d days) ≤ 1073741824
    → Days (terms_in dated) orders 1 (first_evening d) days evening
    → IsChecked d (chain_text d days) dated orders exit text
    → (exit ≡ Done) × (text ≡ proved_text (length days) evening dated)

-- What the chain of an engine's own days proves.
use Rattle.std.specs.Prelude.{◌≡◌, ℕ, ◌≤◌, List, All, Option, Ok, length}
use Rattle.admit_core.specs.Days.{Days, first_evening}
use Rattle.admit_core.specs.DossierRows.{DossierRows}
use Rattle.admit_core.specs.State.{State}
use Rattle.admit_core.specs.Validity.{IsValid}
use Rattle.admit_core.specs.declared.ranking.CallOrder.{CallOrder}
use Rattle.admit_core.specs.declared.records.DayRecord.{DayRecord}
use Rattle.admit_core.specs.declared.records.Terms.{Terms}
use Rattle.certificate.specs.ChainText.{chain_text}
use Rattle.certificate.specs.Grammar.{read}
use Rattle.certificate.specs.ProvedDays.{AreProvedDays}
use Rattle.certificate.specs.Written.{AreNumbered, DayCanBeTold, HasFewPasses, chain_of_days}

-- the text of days, whose numbers have 32 bits and whose falls each name a wish, is read as their
-- chain
abbrev pub ReadsBack : Type 0
ReadsBack =
    (d : DossierRows) (days : List DayRecord)
    → IsValid d
    → AreNumbered 1 days
    → length days ≤ 366
    → All DayCanBeTold days
    → read (chain_text d days) ≡ Ok (chain_of_days d days)

-- the text of days of the rules is read as a chain that proves each of them, and leads to their
-- evening
abbrev pub OwnChainsAreProved : Type 0
OwnChainsAreProved =
    (d : DossierRows) (terms : Option Terms) (orders : List CallOrder) (days : List DayRecord)
    (evening : State)
    → IsValid d
    → length days ≤ 366
    → All HasFewPasses days
    → Days terms orders 1 (first_evening d) days evening
    → (read (chain_text d days) ≡ Ok (chain_of_days d days))
    × AreProvedDays terms orders 1 (first_evening d) (chain_of_days d days).days evening

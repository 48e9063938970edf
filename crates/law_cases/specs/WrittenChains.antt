-- Witnesses of the laws of written chains: two days of a realistic dossier.
use Rattle.std.specs.Prelude.{◌≡◌, ◌≤◌, List, [], ◌∷◌, length, Option, None, Ok, All}
use Rattle.admit_core.specs.declared.ranking.CallOrder.{CallOrder}
use Rattle.admit_core.specs.declared.records.DayRecord.{DayRecord}
use Rattle.admit_core.specs.declared.records.Terms.{Terms}
use Rattle.admit_core.specs.Days.{Days, first_evening}
use Rattle.admit_core.specs.DossierRows.{DossierRows}
use Rattle.admit_core.specs.State.{State}
use Rattle.admit_core.specs.Validity.{IsValid}
use Rattle.admit_core.specs.WorkedRows.{last_marks, realistic, realistic_days, realistic_order}
use Rattle.certificate.specs.ChainText.{chain_text}
use Rattle.certificate.specs.Grammar.{read}
use Rattle.certificate.specs.ProvedDays.{AreProvedDays}
use Rattle.certificate.specs.Written.{AreNumbered, DayCanBeTold, HasFewPasses, chain_of_days}

-- days of a valid dossier with a pass without falls, one with a fall, and another without
abbrev pub ReadsBackWitness : Type 0
ReadsBackWitness =
    let d : DossierRows = realistic in
    let days : List DayRecord = realistic_days in
    IsValid d
    × AreNumbered 1 days
    × (length days ≤ 366)
    × All DayCanBeTold days
    × (read (chain_text d days) ≡ Ok (chain_of_days d days))

abbrev pub OwnChainsAreProvedWitness : Type 0
OwnChainsAreProvedWitness =
    let d : DossierRows = realistic in
    let terms : Option Terms = None in
    let orders : List CallOrder = realistic_order ∷ [] in
    let days : List DayRecord = realistic_days in
    let evening : State = record { dossier = realistic; marks = last_marks } in
    IsValid d
    × (length days ≤ 366)
    × All HasFewPasses days
    × Days terms orders 1 (first_evening d) days evening
    × (read (chain_text d days) ≡ Ok (chain_of_days d days))
    × AreProvedDays terms orders 1 (first_evening d) (chain_of_days d days).days evening

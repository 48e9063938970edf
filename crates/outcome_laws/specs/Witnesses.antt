-- Witnesses of the laws of outcomes: two days of a realistic dossier, with a fall, and the dossier
-- of two candidates who each come first in the programme that the other prefers.
use Rattle.std.specs.Prelude.{◌≡◌, ℕ, ◌≤◌, List, [], ◌∷◌, ◌++◌, Option, None, length}
use Rattle.admit_core.specs.CallOrder.{AreCallOrders}
use Rattle.admit_core.specs.Days.{Days, first_evening}
use Rattle.admit_core.specs.DossierRows.{DossierRows}
use Rattle.admit_core.specs.Standing.{dossier_of}
use Rattle.admit_core.specs.State.{State}
use Rattle.admit_core.specs.Validity.{IsValid}
use Rattle.admit_core.specs.WorkedFaults.{wish}
use Rattle.admit_core.specs.WorkedRows.{last_marks, realistic, realistic_days, realistic_order}
use Rattle.admit_core.specs.declared.ranking.CallOrder.{CallOrder}
use Rattle.admit_core.specs.declared.records.DayRecord.{DayRecord}
use Rattle.certificate.specs.ChainText.{chain_text}
use Rattle.fairness.specs.NotPromised.{by_rank, group, plain, programme, tables}
use Rattle.intake.specs.Dated.{terms_in}
use Rattle.intake.specs.declared.terms.DatedTerms.{DatedTerms}
use Rattle.markets.specs.Bars.{matched_under}
use Rattle.markets.specs.Dossiers.{market_candidates, market_of}
use Rattle.markets.specs.Text.{market_text}
use Rattle.modes.specs.Checking.{IsChecked, proved_text}
use Rattle.modes.specs.Market.{TellsMarket}
use Rattle.modes.specs.declared.exit.Exit.{Exit}
use Rattle.modes.specs.declared.exit.Exit.TheVariants.{Done}
use Rattle.outcome_laws.specs.MarketTexts.{TellsTheBest}

abbrev pub OwnTextsAreProvedWitness : Type 0
OwnTextsAreProvedWitness =
    let d : DossierRows = realistic in
    let dated : Option DatedTerms = None in
    let orders : List CallOrder = realistic_order ∷ [] in
    let days : List DayRecord = realistic_days in
    let evening : State = record { dossier = realistic; marks = last_marks } in
    let exit : Exit = Done in
    let text : List ℕ = proved_text 2 (record { dossier = realistic; marks = last_marks }) None in
    IsValid d
    × (length days ≤ 366)
    × (length (chain_text d days) ≤ 1073741824)
    × Days (terms_in dated) orders 1 (first_evening d) days evening
    × IsChecked d (chain_text d days) dated orders exit text
    × (exit ≡ Done) × (text ≡ proved_text (length days) evening dated)

-- the candidate 101 prefers the programme 10, and 102 the programme 20
abbrev pub crossed_wishes : DossierRows
crossed_wishes =
    dossier_of (tables (group 1 0 ∷ group 2 0 ∷ []) (programme 10 1 1 ∷ programme 20 2 1 ∷ []) []
    (by_rank 1 (102 ∷ 101 ∷ []) ++ by_rank 2 (101 ∷ 102 ∷ [])) [] (wish 1 102 20 None 1
    ∷ wish 2 101 10 None 1 ∷ wish 3 102 10 None 2 ∷ wish 4 101 20 None 2 ∷ []))

abbrev pub crossed_orders : List CallOrder
crossed_orders = plain (102 ∷ 101 ∷ []) ∷ plain (101 ∷ 102 ∷ []) ∷ []

-- no bar falls
abbrev pub MarketsTellTheBestWitness : Type 0
MarketsTellTheBestWitness =
    let d : DossierRows = crossed_wishes in
    let orders : List CallOrder = crossed_orders in
    let text : List ℕ = market_text crossed_wishes (market_candidates crossed_wishes) (2 ∷ 2 ∷ [])
    (matched_under (market_of crossed_wishes crossed_orders) (2 ∷ 2 ∷ [])) in
    IsValid d
    × AreCallOrders d.groups orders
    × TellsMarket d orders text
    × TellsTheBest d orders text

-- For each law a worked case that meets all its premises, with what it concludes there: the law's
-- text, with a value for each variable and a product for each arrow.
use Rattle.std.specs.Prelude.{◌≡◌, ℕ, List, None, Option, Some}
use Rattle.admit_core.specs.declared.ranking.CallOrder.{CallOrder}
use Rattle.admit_core.specs.declared.records.DayRecord.{DayRecord}
use Rattle.admit_core.specs.declared.records.Terms.{Terms}
use Rattle.admit_core.specs.declared.tables.Tables.{Tables}
use Rattle.admit_core.specs.Days.{Days, first_evening}
use Rattle.admit_core.specs.Lapses.{AreTermsFor}
use Rattle.admit_core.specs.OwnWishes.{IsOneAccepted}
use Rattle.admit_core.specs.Ranges.{AreTables}
use Rattle.admit_core.specs.Relations.{first_fault}
use Rattle.admit_core.specs.Standing.{dossier_of}
use Rattle.admit_core.specs.State.{State}
use Rattle.admit_core.specs.Validity.{IsValid}
use Rattle.cut_laws.specs.Cut.{AreTheRest, cut_at, terms_at}
use Rattle.cut_laws.specs.WorkedCampaign.{call_orders, cut_days, cut_night, first_night, one_day_more, small_night}
use Rattle.next_morning.specs.Laws.{IsEveningOf}
use Rattle.next_morning.specs.Morning.{tables_after}
use Rattle.next_morning.specs.WorkedMorning.{campaign_tables, small_tables}

-- ---- the campaign that is cut in the evening of day 1
abbrev pub TablesAreOfTheCutWitness : Type 0
TablesAreOfTheCutWitness =
    let a : ℕ = 1 in
    let t : Tables = campaign_tables in
    let evening : State = first_night in
    IsEveningOf t evening
    × (dossier_of (tables_after a t evening) ≡ cut_at a evening)

-- ---- the small dossier in an evening on which its wish is accepted
abbrev pub TablesAreValidWitness : Type 0
TablesAreValidWitness =
    let a : ℕ = 1 in
    let t : Tables = small_tables in
    let evening : State = small_night in
    IsEveningOf t evening
    × IsValid evening.dossier
    × IsOneAccepted evening
    × IsValid (dossier_of (tables_after a t evening))

abbrev pub TablesAreAcceptedWitness : Type 0
TablesAreAcceptedWitness =
    let a : ℕ = 1 in
    let t : Tables = small_tables in
    let evening : State = small_night in
    IsEveningOf t evening
    × AreTables t
    × (first_fault t ≡ None)
    × IsOneAccepted evening
    × AreTables (tables_after a t evening) × (first_fault (tables_after a t evening) ≡ None)

-- ---- days 1 and 2 over the tables of the morning after day 1 are days 2 and 3
abbrev pub RunsAreTheRestWitness : Type 0
RunsAreTheRestWitness =
    let a : ℕ = 1 in
    let t : Tables = campaign_tables in
    let evening : State = first_night in
    let terms : Option Terms = Some one_day_more in
    let orders : List CallOrder = call_orders in
    let days : List DayRecord = cut_days in
    let other : State = cut_night in
    IsEveningOf t evening
    × AreTermsFor evening.dossier terms
    × Days (terms_at a terms evening) orders 1
    (first_evening (dossier_of (tables_after a t evening))) days other
    × AreTheRest terms orders a evening days other

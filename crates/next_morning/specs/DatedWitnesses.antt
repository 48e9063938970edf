-- For each law of dated mornings a worked case that meets all its premises, with what it concludes
-- there: the law's text, with a value for each variable and a product for each arrow.
use Rattle.std.specs.Prelude.{◌≡◌, ℕ, [], ◌∷◌, List, None, Option, Some, length, map, pos}
use Rattle.std.specs.List.{range_with_len}
use Rattle.admit_core.specs.declared.ranking.CallOrder.{CallOrder}
use Rattle.admit_core.specs.declared.records.DayRecord.{DayRecord}
use Rattle.admit_core.specs.declared.state.Status.TheVariants.{Offered, Refused, Waiting}
use Rattle.admit_core.specs.declared.tables.StateRow.{StateRow}
use Rattle.admit_core.specs.declared.tables.Tables.{Tables}
use Rattle.admit_core.specs.Days.{Days, first_evening}
use Rattle.admit_core.specs.Lapses.{AreTermsFor}
use Rattle.admit_core.specs.OwnWishes.{IsOneAccepted}
use Rattle.admit_core.specs.Ranges.{AreTables}
use Rattle.admit_core.specs.Relations.{first_fault}
use Rattle.admit_core.specs.Standing.{dossier_of}
use Rattle.admit_core.specs.State.{State}
use Rattle.cut_laws.specs.Cut.{StandAlike, cut_at}
use Rattle.cut_laws.specs.WorkedCampaign.{call_orders, cut_days, cut_night, first_night, one_day_more, second_night}
use Rattle.cut_laws.specs.WorkedCampaign.{small_night}
use Rattle.dossier_check.specs.Dates.{dates_of}
use Rattle.intake.specs.declared.terms.DatedTerms.{DatedTerms}
use Rattle.text_laws.specs.ReadBack.{HaveReadDates, since_when}
use Rattle.next_morning.specs.DatedLaws.{AreTheRestBy, next_terms}
use Rattle.next_morning.specs.Laws.{IsEveningOf}
use Rattle.next_morning.specs.Morning.{HaveDates, morning_tables}
use Rattle.next_morning.specs.WorkedMorning.{campaign_tables, small_tables, told}

-- day 1 of the worked campaign is 2024-06-02
abbrev pub from_june : DatedTerms
from_june = record { start = pos 19876; terms = one_day_more }

-- a wish that is offered since a day of June 2024
abbrev pub offered_since : ℕ → ℕ → StateRow
offered_since day wish =
    record (told wish Offered) { since = Some (record { year = 2024; month = 6; day = day }) }

-- before day 2 two wishes are offered since day 1; before day 3 one of them still is, and one since
-- day 2; and the terms of the first morning count the offers from the day before
abbrev pub WorkedDatedMornings : Type 0
WorkedDatedMornings =
    HaveDates first_night from_june
    × ((morning_tables 1 campaign_tables first_night (Some from_june)).state
    ≡ told 1 Waiting ∷ offered_since 2 2 ∷ offered_since 2 3 ∷ told 4 Waiting ∷ [])
    × ((morning_tables 2 campaign_tables second_night (Some from_june)).state
    ≡ told 1 Waiting ∷ offered_since 2 2 ∷ told 3 Refused ∷ offered_since 3 4 ∷ [])
    × (next_terms 1 campaign_tables first_night from_june ≡ one_day_more)

-- ---- the campaign that is cut in the evening of day 1
abbrev pub DatedTablesAreOfTheCutWitness : Type 0
DatedTablesAreOfTheCutWitness =
    let a : ℕ = 1 in
    let t : Tables = campaign_tables in
    let evening : State = first_night in
    let dated : Option DatedTerms = Some from_june in
    IsEveningOf t evening
    × (dossier_of (morning_tables a t evening dated) ≡ cut_at a evening)

-- ---- the small dossier in an evening on which its wish is accepted
abbrev pub DatedTablesAreAcceptedWitness : Type 0
DatedTablesAreAcceptedWitness =
    let a : ℕ = 1 in
    let t : Tables = small_tables in
    let evening : State = small_night in
    let dated : Option DatedTerms =
    Some (record { start = pos 19876; terms = record { term = 1; before = pos 0 ∷ [] } }) in
    IsEveningOf t evening
    × AreTables t
    × (first_fault t ≡ None)
    × IsOneAccepted evening
    × AreTables (morning_tables a t evening dated)
    × (first_fault (morning_tables a t evening dated) ≡ None)

-- ---- the campaign that is cut in the evening of day 1
abbrev pub DatesAreOfTheEveningWitness : Type 0
DatesAreOfTheEveningWitness =
    let a : ℕ = 1 in
    let t : Tables = campaign_tables in
    let evening : State = first_night in
    let dated : DatedTerms = from_june in
    IsEveningOf t evening
    × (dates_of (morning_tables a t evening (Some dated))
    ≡ map (since_when evening dated.start dated.terms.before)
    (range_with_len 0 (length evening.dossier.wishes)))

abbrev pub DatedOffersStandAlikeWitness : Type 0
DatedOffersStandAlikeWitness =
    let a : ℕ = 1 in
    let t : Tables = campaign_tables in
    let evening : State = first_night in
    let dated : DatedTerms = from_june in
    IsEveningOf t evening
    × AreTermsFor evening.dossier (Some dated.terms)
    × HaveReadDates evening dated.start dated.terms.before
    × StandAlike a (Some dated.terms) evening (Some (next_terms a t evening dated))
    (first_evening (dossier_of (morning_tables a t evening (Some dated))))

-- ---- days 1 and 2 over the tables of the morning after day 1 are days 2 and 3
abbrev pub DatedRunsAreTheRestWitness : Type 0
DatedRunsAreTheRestWitness =
    let a : ℕ = 1 in
    let t : Tables = campaign_tables in
    let evening : State = first_night in
    let dated : DatedTerms = from_june in
    let orders : List CallOrder = call_orders in
    let days : List DayRecord = cut_days in
    let other : State = cut_night in
    IsEveningOf t evening
    × AreTermsFor evening.dossier (Some dated.terms)
    × HaveReadDates evening dated.start dated.terms.before
    × Days (Some (next_terms a t evening dated)) orders 1
    (first_evening (dossier_of (morning_tables a t evening (Some dated)))) days other
    × AreTheRestBy (Some dated.terms) (Some (next_terms a t evening dated)) orders a evening days
    other

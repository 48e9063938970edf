-- Witnesses of the laws of days and explanations: two schools without beds, whose bars fall in either
-- order, and days of a realistic dossier.
use Rattle.std.specs.Prelude.{◌≡◌, ℕ, false, List, [], ◌∷◌, length, map, Option, None}
use Rattle.std.specs.List.{AllZip, range_with_len}
use Rattle.admit_core.specs.declared.ranking.CallOrder.{CallOrder}
use Rattle.admit_core.specs.declared.records.DayRecord.{DayRecord}
use Rattle.admit_core.specs.declared.records.Terms.{Terms}
use Rattle.admit_core.specs.CallOrder.{AreCallOrders}
use Rattle.admit_core.specs.Days.{Days, IsDay, ceilings_of, first_evening}
use Rattle.admit_core.specs.DossierRows.{DossierRows}
use Rattle.admit_core.specs.EveningLaws.{last_bars}
use Rattle.admit_core.specs.Explanations.{LastPass, explained}
use Rattle.admit_core.specs.State.{State}
use Rattle.admit_core.specs.WorkedDays.{day, fall, quiet, two_candidates}
use Rattle.admit_core.specs.WorkedRows.{first_marks, greatest_bar, greatest_bar_evening, greatest_bar_orders, group}
use Rattle.admit_core.specs.WorkedRows.{ranked, realistic, realistic_order}
use Rattle.bar_fixpoint.specs.Choices.{first_of}
use Rattle.desk_day.specs.DayLaws.{SameDayButFalls}
use Rattle.desk_day.specs.LastPasses.{IsLastPass, last_of, last_pass}
use Rattle.desk_day.specs.RunDay.{IsDayDone, Moment}
use Rattle.explanations.specs.Sayings.{explanation_at}
use Rattle.law_cases.specs.Bars.{two_full}
use Rattle.law_cases.specs.Days.{held_bed, held_bed_evening, realistic_passes}

-- the dossier of the two schools, with its ranking
abbrev pub full_schools : DossierRows
full_schools =
    record two_full.dossier {
      groups = group 0 0 (ranked 11 1 false false ∷ ranked 12 2 false false ∷ []) ∷ [];
    }

-- a day on which the first school falls first, and one on which the second does
abbrev pub first_falls_first : ℕ → DayRecord
first_falls_first n =
    day n
    (quiet (0 ∷ 1 ∷ []) (fall 0 4 0 (0 ∷ []) ∷ fall 1 4 1 (1 ∷ []) ∷ []) [] ∷ [])
    (2 ∷ []) (0 ∷ 0 ∷ [])

abbrev pub second_falls_first : ℕ → DayRecord
second_falls_first n =
    day n
    (quiet (0 ∷ 1 ∷ []) (fall 1 4 1 (1 ∷ []) ∷ fall 0 4 0 (0 ∷ []) ∷ []) [] ∷ [])
    (2 ∷ []) (0 ∷ 0 ∷ [])

-- ---- days
abbrev pub OnlyFallsDifferWitness : Type 0
OnlyFallsDifferWitness =
    let terms : Option Terms = None in
    let orders : List CallOrder = two_candidates in
    let ceilings : List ℕ = 4 ∷ 4 ∷ [] in
    let old : State = first_evening full_schools in
    let one : DayRecord = first_falls_first 1 in
    let other : DayRecord = second_falls_first 1 in
    let evening : State = first_evening full_schools in
    let night : State = first_evening full_schools in
    (one.day ≡ other.day)
    × IsDay terms orders ceilings old one evening
    × IsDay terms orders ceilings old other night
    × (evening ≡ night) × SameDayButFalls one other

-- two days, by two pickers
abbrev pub CampaignsAreFixedWitness : Type 0
CampaignsAreFixedWitness =
    let terms : Option Terms = None in
    let orders : List CallOrder = two_candidates in
    let others : List CallOrder = two_candidates in
    let first : ℕ = 1 in
    let old : State = first_evening full_schools in
    let days : List DayRecord = first_falls_first 1 ∷ first_falls_first 2 ∷ [] in
    let twins : List DayRecord = second_falls_first 1 ∷ first_falls_first 2 ∷ [] in
    let evening : State = first_evening full_schools in
    let night : State = first_evening full_schools in
    AreCallOrders old.dossier.groups orders
    × AreCallOrders old.dossier.groups others
    × (length days ≡ length twins)
    × Days terms orders first old days evening
    × Days terms others first old twins night
    × (evening ≡ night) × AllZip SameDayButFalls days twins

-- ---- explanations
-- a wish that has an offer, one without a seat and one that is barred
abbrev pub EachIsListedWitness : Type 0
EachIsListedWitness =
    let last : LastPass =
    record {
      opening = greatest_bar;
      orders = greatest_bar_orders;
      ceilings = 10 ∷ [];
      bars = 2 ∷ [];
    } in
    let evening : State = greatest_bar_evening in
    (evening.dossier ≡ last.opening.dossier)
    × (length evening.marks ≡ length evening.dossier.wishes)
    × (length last.opening.marks ≡ length last.opening.dossier.wishes)
    × (explained last evening.marks
    ≡ map (explanation_at last evening) (range_with_len 0 (length evening.dossier.wishes)))

abbrev pub realistic_day : DayRecord
realistic_day = day 1 realistic_passes (0 ∷ 0 ∷ []) (0 ∷ [])

abbrev pub realistic_evening : State
realistic_evening = record { dossier = realistic; marks = first_marks }

abbrev pub DaysEndSoWitness : Type 0
DaysEndSoWitness =
    let terms : Option Terms = None in
    let orders : List CallOrder = realistic_order ∷ [] in
    let ceilings : List ℕ = 10 ∷ [] in
    let old : State = first_evening realistic in
    let day : DayRecord = realistic_day in
    let evening : State = realistic_evening in
    AreCallOrders old.dossier.groups orders
    × (length ceilings ≡ length old.dossier.schools)
    × IsDay terms orders ceilings old day evening
    × IsLastPass (last_of terms orders ceilings old day) evening

-- a day on a desk, on which the school that fell was told of
abbrev pub held_day : DayRecord
held_day =
    day 1 (quiet (1 ∷ []) (fall 0 9 1 (1 ∷ []) ∷ []) [] ∷ []) (1 ∷ 0 ∷ []) (0 ∷ [])

abbrev pub held_start : State
held_start = first_evening held_bed

abbrev pub desk_at : State → List ℕ → Moment
desk_at present told =
    record {
      desk = record { present = present; evening = held_start; opening = held_start };
      told = told;
      choice = λ told places. first_of places;
    }

abbrev pub DesksEndSoWitness : Type 0
DesksEndSoWitness =
    let terms : Option Terms = None in
    let orders : List CallOrder = two_candidates in
    let ceilings : List ℕ = 9 ∷ [] in
    let day : ℕ = 1 in
    let before : Moment = desk_at held_start [] in
    let done : DayRecord = held_day in
    let after : Moment = desk_at held_bed_evening (0 ∷ []) in
    AreCallOrders before.desk.present.dossier.groups orders
    × (length ceilings ≡ length before.desk.present.dossier.schools)
    × IsDayDone terms orders ceilings day before done after
    × IsLastPass (last_pass after.desk.opening orders ceilings (last_bars done.passes))
    after.desk.present

abbrev pub DaysFixThemWitness : Type 0
DaysFixThemWitness =
    let terms : Option Terms = None in
    let orders : List CallOrder = two_candidates in
    let ceilings : List ℕ = 4 ∷ 4 ∷ [] in
    let old : State = first_evening full_schools in
    let one : DayRecord = first_falls_first 1 in
    let other : DayRecord = second_falls_first 1 in
    let evening : State = first_evening full_schools in
    let night : State = first_evening full_schools in
    (one.day ≡ other.day)
    × IsDay terms orders ceilings old one evening
    × IsDay terms orders ceilings old other night
    × (explained (last_of terms orders ceilings old one) evening.marks
    ≡ explained (last_of terms orders ceilings old other) night.marks)

abbrev pub CampaignsFixThemWitness : Type 0
CampaignsFixThemWitness =
    let terms : Option Terms = None in
    let orders : List CallOrder = two_candidates in
    let others : List CallOrder = two_candidates in
    let first : ℕ = 1 in
    let last : ℕ = 2 in
    let old : State = first_evening full_schools in
    let days : List DayRecord = first_falls_first 1 ∷ [] in
    let twins : List DayRecord = second_falls_first 1 ∷ [] in
    let day : DayRecord = second_falls_first 2 in
    let twin : DayRecord = first_falls_first 2 in
    let noon : State = first_evening full_schools in
    let noon_too : State = first_evening full_schools in
    let evening : State = first_evening full_schools in
    let night : State = first_evening full_schools in
    AreCallOrders old.dossier.groups orders
    × AreCallOrders old.dossier.groups others
    × (length days ≡ length twins)
    × Days terms orders first old days noon
    × Days terms others first old twins noon_too
    × (day.day ≡ twin.day)
    × IsDay terms orders (ceilings_of old.dossier last) noon day evening
    × IsDay terms others (ceilings_of old.dossier last) noon_too twin night
    × (explained (last_of terms orders (ceilings_of old.dossier last) noon day) evening.marks
    ≡ explained (last_of terms others (ceilings_of old.dossier last) noon_too twin) night.marks)

-- Witnesses of the laws of evenings, of nights, of call limits and of those who stand ahead.
use Rattle.std.specs.Prelude.{◌≡◌, ◌≤◌, ◌+◌, ◌∷◌, ℕ, All, AllPairs, IsTrue, List, None, Option, [], false, length, map}
use Rattle.std.specs.Prelude.{slice_set, sum}
use Rattle.admit_core.specs.declared.dossier.Wish.{Wish}
use Rattle.admit_core.specs.declared.ranking.CallOrder.{CallOrder}
use Rattle.admit_core.specs.declared.records.DayRecord.{DayRecord}
use Rattle.admit_core.specs.declared.records.Terms.{Terms}
use Rattle.admit_core.specs.declared.state.Mark.{Mark}
use Rattle.admit_core.specs.declared.state.Status.TheVariants.{Accepted, Lapsed, Offered, Refused, Waiting}
use Rattle.admit_core.specs.Boarding.{boarding}
use Rattle.admit_core.specs.CallOrder.{AreCallOrders}
use Rattle.admit_core.specs.Days.{Days, IsDay, answers_of, ceilings_of, first_evening}
use Rattle.admit_core.specs.DossierRows.{DossierRows, beds_of}
use Rattle.admit_core.specs.EveningLaws.{last_bars}
use Rattle.admit_core.specs.Falls.{Fits, IsAtMost, IsGreatest}
use Rattle.admit_core.specs.Lapses.{AreTermsFor}
use Rattle.admit_core.specs.LeastBeds.{with_beds}
use Rattle.admit_core.specs.Proposals.{ahead}
use Rattle.admit_core.specs.State.{State, entries, is_waiting, seat_holders}
use Rattle.admit_core.specs.Validity.{IsValid}
use Rattle.admit_core.specs.WorkedDays.{day, in_order, quiet, two_candidates}
use Rattle.admit_core.specs.WorkedRows.{boarder, first_marks, group, limited, marked, ranked, realistic}
use Rattle.admit_core.specs.WorkedRows.{realistic_order, rows, school, small_dossier, wish}
use Rattle.evening_laws.specs.FewPasses.{given_up}
use Rattle.evening_laws.specs.Idle.{IsNotKeptWaiting, are_both_idle}
use Rattle.campaign_laws.specs.Moments.{Opening, moments, openings}
use Rattle.campaign_laws.specs.Room.{FitsSeatsAndLimitOf, beyond_limit}
use Rattle.campaign_laws.specs.WorkedCampaign.{before_summer, first_night, next_day, second_night, small_days}
use Rattle.campaign_laws.specs.WorkedCampaign.{small_night, small_orders, summer_days, summer_orders, third_night}
use Rattle.campaign_laws.specs.WorkedCampaign.{thirteenth}
use Rattle.campaign_bars.specs.Ahead.{EachToNext, NoBarRose, NoMoreAhead, NotSameProgramme}
use Rattle.campaign_bars.specs.HeldBeds.{NoMoreThan}
use Rattle.campaign_bars.specs.MoreBeds.{HasSameDays, StandsAtCeiling}
use Rattle.campaign_bars.specs.Overnight.{first_bars}
use Rattle.law_cases.specs.Days.{held_bed_evening}
use Rattle.law_cases.specs.Explanations.{held_day, held_start, realistic_day, realistic_evening}

-- ---- two passes, and one wish given up
abbrev pub PassesAreFewWitness : Type 0
PassesAreFewWitness =
    let terms : Option Terms = None in
    let orders : List CallOrder = realistic_order ∷ [] in
    let ceilings : List ℕ = 10 ∷ [] in
    let old : State = first_evening realistic in
    let day : DayRecord = realistic_day in
    let evening : State = realistic_evening in
    IsDay terms orders ceilings old day evening
    × (length day.passes ≤ sum (map given_up day.passes) + 1)

-- ---- 12 waits for the seat that is left: the one bed is held
abbrev pub SeatAndBedAreNeverBothIdleWitness : Type 0
SeatAndBedAreNeverBothIdleWitness =
    let terms : Option Terms = None in
    let orders : List CallOrder = two_candidates in
    let ceilings : List ℕ = 9 ∷ [] in
    let old : State = held_start in
    let day : DayRecord = held_day in
    let evening : State = held_bed_evening in
    IsValid old.dossier
    × AreCallOrders old.dossier.groups orders
    × IsDay terms orders ceilings old day evening
    × All (IsNotKeptWaiting evening ceilings) (entries evening)

abbrev pub IsNotKeptWaitingWitness : Type 0
IsNotKeptWaitingWitness =
    let s : State = held_bed_evening in
    let ceilings : List ℕ = 9 ∷ [] in
    let w : Wish = boarder 2 12 0 0 2 0 in
    let m : Mark = marked Waiting 0 0 in
    IsTrue (is_waiting m) × (are_both_idle s ceilings w ≡ false)

-- ---- the bar of the last pass is 0, and that of its evening 10
abbrev pub LastBarsStillFitWitness : Type 0
LastBarsStillFitWitness =
    let terms : Option Terms = None in
    let orders : List CallOrder = realistic_order ∷ [] in
    let ceilings : List ℕ = 10 ∷ [] in
    let old : State = first_evening realistic in
    let day : DayRecord = realistic_day in
    let evening : State = realistic_evening in
    IsValid old.dossier
    × AreCallOrders old.dossier.groups orders
    × IsDay terms orders ceilings old day evening
    × Fits (boarding evening orders ceilings) (last_bars day.passes)

abbrev pub EveningBarsAreNoLowerWitness : Type 0
EveningBarsAreNoLowerWitness =
    let terms : Option Terms = None in
    let orders : List CallOrder = realistic_order ∷ [] in
    let ceilings : List ℕ = 10 ∷ [] in
    let old : State = first_evening realistic in
    let day : DayRecord = realistic_day in
    let evening : State = realistic_evening in
    let bars : List ℕ = 10 ∷ [] in
    IsValid old.dossier
    × AreCallOrders old.dossier.groups orders
    × IsDay terms orders ceilings old day evening
    × IsGreatest (boarding evening orders ceilings) bars
    × IsAtMost (last_bars day.passes) bars

-- ---- the night after, where nobody answers on day 2: the bar rises from 0 to 10
abbrev pub unanswered : DossierRows
unanswered = record realistic { answers = [] }

abbrev pub unanswered_evening : State
unanswered_evening = record { dossier = unanswered; marks = first_marks }

abbrev pub day_after : DayRecord
day_after = day 2 (quiet (10 ∷ []) [] [] ∷ []) (0 ∷ 0 ∷ []) (0 ∷ [])

abbrev pub NoBarFallsOvernightWitness : Type 0
NoBarFallsOvernightWitness =
    let terms : Option Terms = None in
    let orders : List CallOrder = realistic_order ∷ [] in
    let d : ℕ = 1 in
    let old : State = first_evening unanswered in
    let day : DayRecord = realistic_day in
    let next : DayRecord = day_after in
    let evening : State = unanswered_evening in
    let new : State = unanswered_evening in
    IsValid old.dossier
    × AreCallOrders old.dossier.groups orders
    × AreTermsFor old.dossier terms
    × (length old.marks ≡ length old.dossier.wishes)
    × Days terms orders d old (day ∷ []) evening
    × Days terms orders (d + 1) evening (next ∷ []) new
    × IsAtMost (ceilings_of old.dossier d) (ceilings_of old.dossier (d + 1))
    × (next.lapsed ≡ [])
    × (answers_of old.dossier (d + 1) ≡ [])
    × IsAtMost (last_bars day.passes) (first_bars next.passes)

-- ---- those ahead of 13: one on day 2, nobody on day 3, and the bar stands at 9
abbrev pub AheadGrowsOnlyWithABarWitness : Type 0
AheadGrowsOnlyWithABarWitness =
    let terms : Option Terms = next_day in
    let orders : List CallOrder = summer_orders in
    let d : ℕ = 1 in
    let old : State = before_summer in
    let days : List DayRecord = summer_days in
    let new : State = third_night in
    IsValid old.dossier
    × AllPairs NotSameProgramme old.dossier.wishes
    × AreTermsFor old.dossier terms
    × Days terms orders d old days new
    × EachToNext (NoMoreAhead orders) (openings terms orders old days)

-- what the passes of days 2 and 3 find: 11 has refused, and an offer of 12 has lapsed
abbrev pub second_opening : Opening
second_opening =
    record {
      state = record first_night { marks = slice_set first_night.marks 0 (marked Refused 2 0) };
      bars = 9 ∷ [];
    }

abbrev pub third_opening : Opening
third_opening =
    record {
      state = record second_night { marks = slice_set second_night.marks 4 (marked Lapsed 3 0) };
      bars = 9 ∷ [];
    }

abbrev pub NoMoreAheadWitness : Type 0
NoMoreAheadWitness =
    let orders : List CallOrder = summer_orders in
    let earlier : Opening = second_opening in
    let later : Opening = third_opening in
    let w : Wish = thirteenth in
    NoBarRose earlier later
    × (ahead later.state orders later.bars w ≤ ahead earlier.state orders earlier.bars w)

abbrev pub AheadOfThirteen : Type 0
AheadOfThirteen =
    (ahead second_opening.state summer_orders second_opening.bars thirteenth ≡ 1)
    × (ahead third_opening.state summer_orders third_opening.bars thirteenth ≡ 0)

-- ---- a call limit: the one seat is taken, and the limit calls two more
abbrev pub called_past : DossierRows
called_past =
    record (rows (limited 10 0 1 2 ∷ []) [] (wish 1 11 0 0 ∷ wish 2 12 0 0 ∷ wish 3 13 0 0 ∷ [])
    (Waiting ∷ Waiting ∷ Accepted ∷ [])) {
      groups = group 0 0
          (ranked 11 1 false false ∷ ranked 12 2 false false ∷ ranked 13 3 false false ∷ []) ∷ [];
    }

abbrev pub three_called : List CallOrder
three_called = in_order (11 ∷ 12 ∷ 13 ∷ []) ∷ []

abbrev pub day_past : DayRecord
day_past = day 1 (quiet [] [] (0 ∷ 1 ∷ []) ∷ []) (0 ∷ []) []

abbrev pub evening_past : State
evening_past =
    record {
      dossier = called_past;
      marks = marked Offered 1 1 ∷ marked Offered 1 1 ∷ marked Accepted 0 0 ∷ [];
    }

abbrev pub NeverMoreThanSeatsAndLimitWitness : Type 0
NeverMoreThanSeatsAndLimitWitness =
    let terms : Option Terms = None in
    let orders : List CallOrder = three_called in
    let d : ℕ = 1 in
    let old : State = first_evening called_past in
    let days : List DayRecord = day_past ∷ [] in
    let new : State = evening_past in
    let p : ℕ = 0 in
    IsValid old.dossier
    × AreCallOrders old.dossier.groups orders
    × AreTermsFor old.dossier terms
    × Days terms orders d old days new
    × All (FitsSeatsAndLimitOf orders old p) (moments terms orders old days)

-- three with one seat, and a limit of two
abbrev pub ThreeAreLive : Type 0
ThreeAreLive =
    (length (seat_holders evening_past 0) ≡ 3)
    × (length (beyond_limit three_called evening_past 0) ≡ 1)

-- ---- more beds: the bar of the small dossier's school stands at the ceiling on day 2
abbrev pub MoreBedsChangeNothingWitness : Type 0
MoreBedsChangeNothingWitness =
    let terms : Option Terms = None in
    let orders : List CallOrder = small_orders in
    let d : ℕ = 2 in
    let old : State = first_evening small_dossier in
    let days : List DayRecord = small_days in
    let new : State = small_night in
    let h : ℕ = 0 in
    let n : ℕ = 5 in
    Days terms orders d old days new
    × All (StandsAtCeiling old.dossier h) days
    × (beds_of old.dossier h ≤ n)
    × HasSameDays terms orders d (with_beds old h n) days (with_beds new h n)

-- ---- of five beds one was ever held, so one would do
abbrev pub roomy : DossierRows
roomy = record small_dossier { schools = school 5 5 9 ∷ [] }

abbrev pub roomy_day : DayRecord
roomy_day = day 2 (quiet (3 ∷ []) [] (0 ∷ []) ∷ []) (0 ∷ []) (4 ∷ [])

abbrev pub roomy_night : State
roomy_night = record { dossier = roomy; marks = marked Offered 2 1 ∷ [] }

abbrev pub BedsEverHeldWouldDoWitness : Type 0
BedsEverHeldWouldDoWitness =
    let terms : Option Terms = None in
    let orders : List CallOrder = small_orders in
    let d : ℕ = 2 in
    let old : State = first_evening roomy in
    let days : List DayRecord = roomy_day ∷ [] in
    let new : State = roomy_night in
    let h : ℕ = 0 in
    let n : ℕ = 1 in
    IsValid old.dossier
    × Days terms orders d old days new
    × All (StandsAtCeiling old.dossier h) days
    × All (NoMoreThan h n) (moments terms orders old days)
    × HasSameDays terms orders d (with_beds old h n) days (with_beds new h n)

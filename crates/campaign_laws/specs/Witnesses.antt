-- For each law a worked case that meets all its premises, with what it concludes there: the law's
-- text, with a value for each variable and a product for each arrow.
use Rattle.std.specs.Prelude.{◌≡◌, ◌∷◌, ◌<◌, ◌≤◌, ◌⊎◌, ◌+◌, ℕ, All, AllPairs, IsSome, IsTrue, List, None, Option, Some}
use Rattle.std.specs.Prelude.{[], false, length}
use Rattle.admit_core.specs.declared.dossier.Wish.{Wish}
use Rattle.admit_core.specs.declared.ranking.CallOrder.{CallOrder}
use Rattle.admit_core.specs.declared.records.DayRecord.{DayRecord}
use Rattle.admit_core.specs.declared.records.Terms.{Terms}
use Rattle.admit_core.specs.declared.state.Mark.{Mark}
use Rattle.admit_core.specs.declared.state.Status.TheVariants.{Accepted, Lapsed, Offered, Refused, Waiting}
use Rattle.admit_core.specs.CallOrder.{AreCallOrders}
use Rattle.admit_core.specs.Days.{Days, answers_of, ceilings_of, first_evening}
use Rattle.admit_core.specs.DossierRows.{DossierRows, limit_of, seats_of}
use Rattle.admit_core.specs.Lapses.{AreTermsFor}
use Rattle.admit_core.specs.Lists.{is_among}
use Rattle.admit_core.specs.Proposals.{before}
use Rattle.admit_core.specs.State.{State, holds_bed, holds_seat, is_gone, is_live, is_waiting, seat_holders}
use Rattle.admit_core.specs.Validity.{IsValid}
use Rattle.admit_core.specs.WorkedRows.{boarder, marked, small_dossier, wish}
use Rattle.campaign_laws.specs.AutomaticDay.{IsAllAutomatic, IsStable, has_as_good}
use Rattle.campaign_laws.specs.Beds.{CameByBetterRank, GoesByTheTwoLists, IsBarredIn, IsSameWishOffered, ranks_better}
use Rattle.campaign_laws.specs.Crossed.{both_first, crossed, crossed_days, crossed_evening, crossed_orders}
use Rattle.campaign_laws.specs.Kept.{AnswersThemself, GivesNoAnswer, KeepsOwn, NeverDescends, has_accepted}
use Rattle.campaign_laws.specs.Moments.{Opening, moments, openings}
use Rattle.campaign_laws.specs.OneMark.{IsLater}
use Rattle.campaign_laws.specs.PassedOver.{CameFromBefore, IsUnbarred, WaitsAt}
use Rattle.campaign_laws.specs.QuietDays.{ChangesNothing}
use Rattle.campaign_laws.specs.Room.{FitsBedsOf, FitsSeatsOf}
use Rattle.campaign_laws.specs.WaitingPlace.{NoMoreWaitBefore, waiting_before}
use Rattle.campaign_laws.specs.WorkedCampaign.{barred_first, before_summer, first_day, first_night, next_day}
use Rattle.campaign_laws.specs.WorkedCampaign.{second_night, small_day, small_days, small_next, small_night}
use Rattle.campaign_laws.specs.WorkedCampaign.{small_orders, summer_days, summer_orders, third_night, thirteenth}

-- ---- one mark: the refused wish, the one that 12 is offered, and that of 13
abbrev pub GoneStaysGoneWitness : Type 0
GoneStaysGoneWitness =
    let terms : Option Terms = next_day in
    let orders : List CallOrder = summer_orders in
    let d : ℕ = 1 in
    let old : State = before_summer in
    let days : List DayRecord = summer_days in
    let new : State = third_night in
    AreTermsFor old.dossier terms
    × Days terms orders d old days new
    × AllPairs IsLater (old ∷ moments terms orders old days)

abbrev pub IsLaterMarkGoneStaysWitness : Type 0
IsLaterMarkGoneStaysWitness =
    let m : Mark = marked Refused 2 0 in
    let n : Mark = marked Refused 2 0 in
    IsTrue (is_gone m) × (n ≡ m)

abbrev pub IsLaterMarkNeverAgainWitness : Type 0
IsLaterMarkNeverAgainWitness =
    let m : Mark = marked Offered 1 1 in
    let n : Mark = marked Refused 2 0 in
    IsTrue (is_live m) × (is_waiting n ≡ false)

abbrev pub IsLaterMarkWaitedWitness : Type 0
IsLaterMarkWaitedWitness =
    let m : Mark = marked Waiting 0 0 in
    let n : Mark = marked Waiting 0 0 in
    IsTrue (is_waiting n) × (n ≡ m)

-- ---- the place among those who wait: of the two before 13 one waits after day 1, and none later
abbrev pub WaitingPlaceNeverWorsensWitness : Type 0
WaitingPlaceNeverWorsensWitness =
    let terms : Option Terms = next_day in
    let orders : List CallOrder = summer_orders in
    let d : ℕ = 1 in
    let old : State = before_summer in
    let days : List DayRecord = summer_days in
    let new : State = third_night in
    AreTermsFor old.dossier terms
    × Days terms orders d old days new
    × AllPairs (NoMoreWaitBefore orders) (old ∷ moments terms orders old days)

abbrev pub PlacesOfThirteen : Type 0
PlacesOfThirteen =
    (waiting_before before_summer summer_orders thirteenth ≡ 2)
    × (waiting_before first_night summer_orders thirteenth ≡ 1)
    × (waiting_before second_night summer_orders thirteenth ≡ 0)

-- ---- nobody is passed over: 13 waits, and 12, who comes in on day 2, is called before them
abbrev pub NobodyIsEverPassedOverWitness : Type 0
NobodyIsEverPassedOverWitness =
    let terms : Option Terms = next_day in
    let orders : List CallOrder = summer_orders in
    let d : ℕ = 1 in
    let old : State = before_summer in
    let days : List DayRecord = summer_days in
    let new : State = third_night in
    let place : ℕ = 2 in
    let w : Wish = thirteenth in
    AreTermsFor old.dossier terms
    × Days terms orders d old days new
    × WaitsAt new place w
    × All (IsUnbarred w) (openings terms orders old days)
    × All (CameFromBefore orders old w) (moments terms orders old days)

abbrev pub NobodyIsPassedOverWithoutBoardingWitness : Type 0
NobodyIsPassedOverWithoutBoardingWitness =
    let terms : Option Terms = next_day in
    let orders : List CallOrder = summer_orders in
    let d : ℕ = 1 in
    let old : State = before_summer in
    let days : List DayRecord = summer_days in
    let new : State = third_night in
    let place : ℕ = 2 in
    let w : Wish = thirteenth in
    AreTermsFor old.dossier terms
    × Days terms orders d old days new
    × WaitsAt new place w
    × (w.school ≡ None)
    × All (CameFromBefore orders old w) (moments terms orders old days)

abbrev pub CameFromBeforeWitness : Type 0
CameFromBeforeWitness =
    let orders : List CallOrder = summer_orders in
    let old : State = before_summer in
    let w : Wish = thirteenth in
    let s : State = second_night in
    let c : ℕ = 12 in
    IsTrue (holds_seat s c w.programme)
    × (holds_seat old c w.programme ≡ false)
    × IsTrue (is_among c (before old orders w))

-- ---- beds: on day 1 the bar stops 11, and 12, who ranks better there, gets the bed
abbrev pub NoBedGoesPastBarredWishesWitness : Type 0
NoBedGoesPastBarredWishesWitness =
    let terms : Option Terms = next_day in
    let orders : List CallOrder = summer_orders in
    let d : ℕ = 1 in
    let old : State = before_summer in
    let days : List DayRecord = first_day ∷ [] in
    let new : State = first_night in
    let w : Wish = barred_first in
    let h : ℕ = 0 in
    AreTermsFor old.dossier terms
    × Days terms orders d old days new
    × (w.school ≡ Some h)
    × All (IsBarredIn w) (openings terms orders old days)
    × All (CameByBetterRank old h w) (moments terms orders old days)

abbrev pub CameByBetterRankWitness : Type 0
CameByBetterRankWitness =
    let old : State = before_summer in
    let h : ℕ = 0 in
    let w : Wish = barred_first in
    let s : State = first_night in
    let c : ℕ = 12 in
    IsTrue (holds_bed s c h)
    × (holds_bed old c h ≡ false)
    × IsTrue (ranks_better old.dossier h w c)

-- ---- the two lists: 12 is offered the programme and school of 11's wish; they are called later,
-- and rank better in the school
abbrev pub OffersGoByTheTwoListsWitness : Type 0
OffersGoByTheTwoListsWitness =
    let terms : Option Terms = next_day in
    let orders : List CallOrder = summer_orders in
    let d : ℕ = 1 in
    let old : State = before_summer in
    let days : List DayRecord = first_day ∷ [] in
    let new : State = first_night in
    let place : ℕ = 3 in
    let w : Wish = barred_first in
    AreTermsFor old.dossier terms
    × Days terms orders d old days new
    × WaitsAt new place w
    × All (GoesByTheTwoLists orders old w) (openings terms orders old days)

abbrev pub GoesByTheTwoListsWitness : Type 0
GoesByTheTwoListsWitness =
    let orders : List CallOrder = summer_orders in
    let old : State = before_summer in
    let w : Wish = barred_first in
    let o : Opening = record { state = before_summer; bars = 1 ∷ [] } in
    let y : Wish = boarder 5 12 1 0 1 0 in
    IsSameWishOffered orders w o y
    × (IsTrue (is_among y.candidate (before old orders w)) ⊎ (y.board_rank < w.board_rank))

-- ---- silence: 12 never answers, and 14's wishes are answered for
abbrev pub WhatIsYoursStaysWitness : Type 0
WhatIsYoursStaysWitness =
    let terms : Option Terms = next_day in
    let orders : List CallOrder = summer_orders in
    let d : ℕ = 1 in
    let old : State = before_summer in
    let days : List DayRecord = summer_days in
    let new : State = third_night in
    let c : ℕ = 12 in
    AreTermsFor old.dossier terms
    × Days terms orders d old days new
    × AnswersThemself old.dossier c
    × GivesNoAnswer old c days
    × AllPairs (KeepsOwn terms c) (old ∷ moments terms orders old days)

abbrev pub IsKeptAcceptedWitness : Type 0
IsKeptAcceptedWitness =
    let terms : Option Terms = next_day in
    let m : Mark = marked Accepted 0 0 in
    let n : Mark = marked Accepted 0 0 in
    (m.status ≡ Accepted) × (n ≡ m)

abbrev pub IsKeptOfferedWitness : Type 0
IsKeptOfferedWitness =
    let terms : Option Terms = next_day in
    let m : Mark = marked Offered 1 1 in
    let n : Mark = marked Lapsed 3 0 in
    (m.status ≡ Offered) × ((n ≡ m) ⊎ (IsSome terms × (n.status ≡ Lapsed)))

abbrev pub AutomaticAnswersClimbWitness : Type 0
AutomaticAnswersClimbWitness =
    let terms : Option Terms = next_day in
    let orders : List CallOrder = summer_orders in
    let d : ℕ = 1 in
    let old : State = before_summer in
    let days : List DayRecord = summer_days in
    let new : State = third_night in
    let c : ℕ = 14 in
    AreTermsFor old.dossier terms
    × Days terms orders d old days new
    × GivesNoAnswer old c days
    × AllPairs (NeverDescends c) (old ∷ moments terms orders old days)

abbrev pub NeverDescendsWitness : Type 0
NeverDescendsWitness =
    let c : ℕ = 14 in
    let earlier : State = first_night in
    let later : State = third_night in
    let n : ℕ = 2 in
    IsTrue (has_accepted earlier c n) × IsTrue (has_accepted later c n)

-- ---- room: on day 2 of the small dossier, which is valid, 11 gets its one seat and its one bed
abbrev pub NeverMoreThanBedsWitness : Type 0
NeverMoreThanBedsWitness =
    let terms : Option Terms = None in
    let orders : List CallOrder = small_orders in
    let d : ℕ = 2 in
    let old : State = first_evening small_dossier in
    let days : List DayRecord = small_days in
    let new : State = small_night in
    let h : ℕ = 0 in
    IsValid old.dossier
    × AreTermsFor old.dossier terms
    × Days terms orders d old days new
    × (h < length old.dossier.schools)
    × All (FitsBedsOf old h) (moments terms orders old days)

abbrev pub NeverMoreThanSeatsWitness : Type 0
NeverMoreThanSeatsWitness =
    let terms : Option Terms = None in
    let orders : List CallOrder = small_orders in
    let d : ℕ = 2 in
    let old : State = first_evening small_dossier in
    let days : List DayRecord = small_days in
    let new : State = small_night in
    let p : ℕ = 0 in
    IsValid old.dossier
    × AreCallOrders old.dossier.groups orders
    × AreTermsFor old.dossier terms
    × Days terms orders d old days new
    × (p < length old.dossier.programmes)
    × (limit_of old.dossier p ≡ 0)
    × All (FitsSeatsOf old p) (moments terms orders old days)

-- ---- an automatic day: each of the two gets their second, though both would have their first in
-- another stable matching
abbrev pub StableMatchingsAreNoWorseWitness : Type 0
StableMatchingsAreNoWorseWitness =
    let orders : List CallOrder = crossed_orders in
    let d : DossierRows = crossed in
    let days : List DayRecord = crossed_days in
    let evening : State = crossed_evening in
    let m : State = both_first in
    let c : ℕ = 101 in
    let n : ℕ = 2 in
    IsValid d
    × AreCallOrders d.groups orders
    × IsAllAutomatic d
    × Days None orders 1 (first_evening d) days evening
    × IsStable orders d m
    × IsTrue (has_as_good evening c n)
    × IsTrue (has_as_good m c n)

abbrev pub AutomaticEveningsAreStableWitness : Type 0
AutomaticEveningsAreStableWitness =
    let orders : List CallOrder = crossed_orders in
    let d : DossierRows = crossed in
    let days : List DayRecord = crossed_days in
    let evening : State = crossed_evening in
    IsValid d
    × AreCallOrders d.groups orders
    × IsAllAutomatic d
    × (0 < length days)
    × Days None orders 1 (first_evening d) days evening
    × IsStable orders d evening

abbrev pub NotBothLiveWitness : Type 0
NotBothLiveWitness =
    let e : Wish × Mark = (wish 1 101 1 2, marked Accepted 1 1) in
    let f : Wish × Mark = (wish 2 101 0 1, marked Waiting 0 0) in
    (e.0.candidate ≡ f.0.candidate) × IsTrue (is_live e.1) × (is_live f.1 ≡ false)

abbrev pub IsMatchingRoomWitness : Type 0
IsMatchingRoomWitness =
    let d : DossierRows = crossed in
    let m : State = both_first in
    let p : ℕ = 0 in
    (p < length d.programmes) × (length (seat_holders m p) ≤ seats_of d p)

-- ---- a quiet day: the day after, on which nothing is left to do
abbrev pub QuietDaysChangeNothingWitness : Type 0
QuietDaysChangeNothingWitness =
    let terms : Option Terms = None in
    let orders : List CallOrder = small_orders in
    let d : ℕ = 2 in
    let old : State = first_evening small_dossier in
    let day : DayRecord = small_day in
    let next : DayRecord = small_next in
    let evening : State = small_night in
    let new : State = small_night in
    IsValid old.dossier
    × AreCallOrders old.dossier.groups orders
    × AreTermsFor old.dossier terms
    × (length old.marks ≡ length old.dossier.wishes)
    × Days terms orders d old (day ∷ []) evening
    × Days terms orders (d + 1) evening (next ∷ []) new
    × (ceilings_of old.dossier (d + 1) ≡ ceilings_of old.dossier d)
    × (next.lapsed ≡ [])
    × (answers_of old.dossier (d + 1) ≡ [])
    × ChangesNothing evening next new

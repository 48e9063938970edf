-- Witnesses of the laws of changed dossiers. 11, 12 and 13 are called in this order; 11 and 12
-- wish for the one seat of the first programme, 12 and 13 for the two of the second. 13 ranks
-- their wish. On day 2 of the other dossier 11 quits, and 12 gets that seat too. And 11, who waits
-- behind 12 until 12 quits on day 2, is offered the seat on day 1 where they stand first. And
-- 11, who ranks three wishes and gets the third, gets it too if the first two change places. In
-- the summer of three days 13 waits to the end, and the days are the same if they withdrew before.
use Rattle.std.specs.Prelude.{◌≡◌, ◌∷◌, ◌==◌, ℕ, All, IsTrue, List, None, Option, Some, [], false, if◌then◌else◌}
use Rattle.std.specs.Prelude.{length, slice_get}
use Rattle.std.specs.List.{AllZip}
use Rattle.admit_core.specs.declared.dossier.AnswerKind.TheVariants.{Quit}
use Rattle.admit_core.specs.declared.dossier.Wish.{Wish}
use Rattle.admit_core.specs.declared.ranking.CallOrder.{CallOrder}
use Rattle.admit_core.specs.declared.records.DayRecord.{DayRecord}
use Rattle.admit_core.specs.declared.records.Terms.{Terms}
use Rattle.admit_core.specs.declared.state.Mark.{Mark}
use Rattle.admit_core.specs.declared.state.Status.TheVariants.{Accepted, Offered, Quit as HasQuit, Waiting, Withdrawn}
use Rattle.admit_core.specs.CallOrder.{AreCallOrders}
use Rattle.admit_core.specs.Days.{Days, first_evening}
use Rattle.admit_core.specs.DossierRows.{DossierRows}
use Rattle.admit_core.specs.Lapses.{AreTermsFor}
use Rattle.admit_core.specs.State.{State, entries, is_gone, is_live, with_mark_at}
use Rattle.admit_core.specs.Validity.{IsValid}
use Rattle.admit_core.specs.WorkedDays.{change, day, freeing, in_order, quiet}
use Rattle.admit_core.specs.WorkedRows.{group, marked, programme, ranked, rows, wish}
use Rattle.campaign_laws.specs.AutomaticDay.{has_as_good}
use Rattle.campaign_laws.specs.Kept.{GivesNoAnswer}
use Rattle.campaign_laws.specs.Moments.{openings}
use Rattle.campaign_laws.specs.PassedOver.{IsUnbarred, WaitsAt}
use Rattle.campaign_laws.specs.WorkedCampaign.{before_summer, next_day, summer_days, summer_orders, third_night}
use Rattle.campaign_laws.specs.WorkedCampaign.{thirteenth}
use Rattle.change_laws.specs.Kinder.{IsKinder, IsNotHurt, IsSilent, RanksWishes}
use Rattle.change_laws.specs.OnePlaceUp.{is_ever_offered}
use Rattle.change_laws.specs.Unread.{IsUnread, reranked}
use Rattle.fairness.specs.Exchanges.{IsMovedUp}

abbrev pub all_stay : DossierRows
all_stay =
    let d = rows (programme 10 0 1 ∷ programme 20 0 2 ∷ []) []
    (wish 1 11 0 0 ∷ wish 2 12 0 0 ∷ wish 3 12 1 0 ∷ wish 4 13 1 1 ∷ [])
    (Waiting ∷ Waiting ∷ Waiting ∷ Waiting ∷ []) in
    record d {
      groups = group 0 0 (ranked 11 1 false false ∷ ranked 12 2 false false ∷ ranked 13 3 false
          false ∷ []) ∷ [];
    }

abbrev pub one_quits : DossierRows
one_quits = record all_stay { answers = record { day = 2; kind = Quit; target = 11 } ∷ [] }

abbrev pub three_orders : List CallOrder
three_orders = in_order (11 ∷ 12 ∷ 13 ∷ []) ∷ []

abbrev pub shared_day : DayRecord
shared_day =
    day 1 (freeing [] [] (0 ∷ 2 ∷ 3 ∷ []) (change 3 Accepted ∷ []) 0 0 ∷ []) (0 ∷ 0 ∷ []) []

abbrev pub stay_days : List DayRecord
stay_days = shared_day ∷ day 2 (quiet [] [] [] ∷ []) (0 ∷ 0 ∷ []) [] ∷ []

abbrev pub quit_days : List DayRecord
quit_days = shared_day ∷ day 2 (quiet [] [] (1 ∷ []) ∷ []) (0 ∷ 0 ∷ []) [] ∷ []

abbrev pub stay_marks : List Mark
stay_marks =
    marked Offered 1 1 ∷ marked Waiting 0 0 ∷ marked Offered 1 1 ∷ marked Accepted 1 1 ∷ []

abbrev pub stay_evening : State
stay_evening = record { dossier = all_stay; marks = stay_marks }

abbrev pub quit_evening : State
quit_evening = record {
  dossier = one_quits;
  marks = marked HasQuit 2 0 ∷ marked Offered 2 1 ∷ marked Offered 1 1 ∷ marked Accepted 1 1 ∷ [];
}

abbrev pub MoreSeatsAndAnswersHurtNobodyWitness : Type 0
MoreSeatsAndAnswersHurtNobodyWitness =
    let orders : List CallOrder = three_orders in
    let d : DossierRows = all_stay in
    let kinder : DossierRows = one_quits in
    let days : List DayRecord = stay_days in
    let others : List DayRecord = quit_days in
    let evening : State = stay_evening in
    let other : State = quit_evening in
    IsValid d
    × IsValid kinder
    × AreCallOrders d.groups orders
    × All (λ w. w.school ≡ None) d.wishes
    × IsKinder d kinder
    × (length others ≡ length days)
    × Days None orders 1 (first_evening d) days evening
    × Days None orders 1 (first_evening kinder) others other
    × IsNotHurt kinder evening other

-- 12 is silent and keeps the second seat; 13, who is answered for, has it too
abbrev pub IsNotHurtSilentWitness : Type 0
IsNotHurtSilentWitness =
    let kinder : DossierRows = one_quits in
    let first : State = stay_evening in
    let other : State = quit_evening in
    let c : ℕ = 12 in
    IsSilent kinder c
    × AllZip (λ e f. e.0.candidate ≡ c → IsTrue (is_live e.1) → IsTrue (is_live f.1))
    (entries first) (entries other)

abbrev pub IsNotHurtRankedWitness : Type 0
IsNotHurtRankedWitness =
    let kinder : DossierRows = one_quits in
    let first : State = stay_evening in
    let other : State = quit_evening in
    let c : ℕ = 13 in
    let n : ℕ = 1 in
    RanksWishes kinder c × IsTrue (has_as_good first c n) × IsTrue (has_as_good other c n)

abbrev pub waits_behind : DossierRows
waits_behind =
    let d = rows (programme 10 0 1 ∷ []) [] (wish 1 11 0 0 ∷ wish 2 12 0 0 ∷ [])
    (Waiting ∷ Waiting ∷ []) in
    record d {
      groups = group 0 0 (ranked 12 1 false false ∷ ranked 11 2 false false ∷ []) ∷ [];
      answers = record { day = 2; kind = Quit; target = 12 } ∷ [];
    }

abbrev pub second_of_two : List CallOrder
second_of_two = in_order (12 ∷ 11 ∷ []) ∷ []

abbrev pub first_of_two : List CallOrder
first_of_two = in_order (11 ∷ 12 ∷ []) ∷ []

abbrev pub later_days : List DayRecord
later_days =
    day 1 (quiet [] [] (1 ∷ []) ∷ []) (0 ∷ []) []
    ∷ day 2 (quiet [] [] (0 ∷ []) ∷ []) (0 ∷ []) [] ∷ []

abbrev pub sooner_days : List DayRecord
sooner_days =
    day 1 (quiet [] [] (0 ∷ []) ∷ []) (0 ∷ []) [] ∷ day 2 (quiet [] [] [] ∷ []) (0 ∷ []) [] ∷ []

abbrev pub with_two : Mark → Mark → State
with_two m n = record { dossier = waits_behind; marks = m ∷ n ∷ [] }

abbrev pub OnePlaceUpKeepsEachOfferWitness : Type 0
OnePlaceUpKeepsEachOfferWitness =
    let terms : Option Terms = None in
    let orders : List CallOrder = second_of_two in
    let moved : List CallOrder = first_of_two in
    let d : ℕ = 1 in
    let old : State = first_evening waits_behind in
    let days : List DayRecord = later_days in
    let others : List DayRecord = sooner_days in
    let new : State = with_two (marked Offered 2 1) (marked HasQuit 2 0) in
    let other : State = with_two (marked Offered 1 1) (marked HasQuit 2 0) in
    let place : ℕ = 0 in
    let w : Wish = wish 1 11 0 0 in
    IsValid old.dossier
    × All (λ v. v.school ≡ None) old.dossier.wishes
    × (length old.marks ≡ length old.dossier.wishes)
    × AreTermsFor old.dossier terms
    × (slice_get old.dossier.wishes place ≡ Some w)
    × IsMovedUp old.dossier orders moved w.programme w.candidate
    × (length others ≡ length days)
    × Days terms orders d old days new
    × Days terms moved d old others other
    × IsTrue (is_ever_offered place days)
    × IsTrue (is_ever_offered place others)

abbrev pub third_choice : DossierRows
third_choice =
    let d = rows (programme 10 0 0 ∷ programme 20 0 0 ∷ programme 30 0 1 ∷ []) []
    (wish 1 11 0 1 ∷ wish 2 11 1 2 ∷ wish 3 11 2 3 ∷ []) (Waiting ∷ Waiting ∷ Waiting ∷ []) in
    record d { groups = group 0 0 (ranked 11 1 false false ∷ []) ∷ [] }

abbrev pub one_order : List CallOrder
one_order = in_order (11 ∷ []) ∷ []

abbrev pub third_days : List DayRecord
third_days =
    day 1 (freeing [] [] (2 ∷ []) (change 2 Accepted ∷ []) 0 0 ∷ []) (0 ∷ 0 ∷ 0 ∷ []) [] ∷ []

abbrev pub third_evening : State
third_evening = record {
  dossier = third_choice;
  marks = marked Waiting 0 0 ∷ marked Waiting 0 0 ∷ marked Accepted 1 1 ∷ [];
}

-- the first two change places
abbrev pub two_exchanged : Wish → ℕ
two_exchanged w = if w.id == 1 then 2 else if w.id == 2 then 1 else w.preference

abbrev pub OrderAboveIsNeverReadWitness : Type 0
OrderAboveIsNeverReadWitness =
    let terms : Option Terms = None in
    let orders : List CallOrder = one_order in
    let d : ℕ = 1 in
    let old : State = first_evening third_choice in
    let days : List DayRecord = third_days in
    let new : State = third_evening in
    let c : ℕ = 11 in
    let rank : Wish → ℕ = two_exchanged in
    AreTermsFor old.dossier terms
    × Days terms orders d old days new
    × GivesNoAnswer old c days
    × All (IsUnread rank c new) (entries new)
    × Days terms orders d (reranked rank old) days (reranked rank new)

abbrev pub UnbarredWishMayBeStruckOutWitness : Type 0
UnbarredWishMayBeStruckOutWitness =
    let terms : Option Terms = next_day in
    let orders : List CallOrder = summer_orders in
    let d : ℕ = 1 in
    let old : State = before_summer in
    let days : List DayRecord = summer_days in
    let new : State = third_night in
    let place : ℕ = 2 in
    let w : Wish = thirteenth in
    let gone : Mark = marked Withdrawn 0 0 in
    AreTermsFor old.dossier terms
    × (length old.marks ≡ length old.dossier.wishes)
    × Days terms orders d old days new
    × WaitsAt new place w
    × All (IsUnbarred w) (openings terms orders old days)
    × IsTrue (is_gone gone)
    × Days terms orders d (with_mark_at old place gone) days (with_mark_at new place gone)

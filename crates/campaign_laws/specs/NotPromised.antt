-- Pairs of dossiers, alike but for one thing, that show what the rules do not promise of whole
-- days: what each ends with.
use Rattle.std.specs.Prelude.{◌≡◌, ◌∷◌, ◌++◌, ℕ, All, List, None, Some, []}
use Rattle.admit_core.specs.declared.dossier.AnswerKind.TheVariants.{Accept, Quit, Withdraw}
use Rattle.admit_core.specs.declared.dossier.Wish.{Wish}
use Rattle.admit_core.specs.declared.ranking.CallOrder.{CallOrder}
use Rattle.admit_core.specs.declared.records.DayRecord.{DayRecord}
use Rattle.admit_core.specs.declared.state.Mark.{Mark}
use Rattle.admit_core.specs.declared.state.Status.TheVariants.{Accepted, AutoRefused, AutoWithdrawn, Offered}
use Rattle.admit_core.specs.declared.state.Status.TheVariants.{Quit as HasQuit, Refused, Waiting, Withdrawn}
use Rattle.admit_core.specs.declared.tables.AnswerRow.{AnswerRow}
use Rattle.admit_core.specs.declared.tables.Tables.{Tables}
use Rattle.admit_core.specs.declared.tables.WishRow.{WishRow}
use Rattle.admit_core.specs.CallOrder.{AreCallOrders}
use Rattle.admit_core.specs.Days.{Days, first_evening}
use Rattle.admit_core.specs.Relations.{first_fault}
use Rattle.admit_core.specs.Standing.{dossier_of}
use Rattle.admit_core.specs.WorkedDays.{change, day, fall, freeing, quiet}
use Rattle.admit_core.specs.WorkedFaults.{wish}
use Rattle.admit_core.specs.WorkedRows.{boarder, marked}
use Rattle.fairness.specs.NotPromised.{boarded, by_rank, group, plain, programme, school, tables}
use Rattle.campaign_laws.specs.Beds.{IsBarredIn}
use Rattle.campaign_laws.specs.Moments.{openings}
use Rattle.campaign_laws.specs.PassedOver.{WaitsAt}

-- what the days of a dossier end with: its rows have no fault; the call orders, the days, and the
-- marks of the last evening
pub record Ends (t : Tables) (orders : List CallOrder) (days : List DayRecord)
    (marks : List Mark) : Type 0 where
  pub faultless : first_fault t ≡ None
  pub called : AreCallOrders (dossier_of t).groups orders
  pub are_days : Days None orders 1 (first_evening (dossier_of t)) days
      (record { dossier = dossier_of t; marks = marks })

-- at the end of these days a wish waits that was behind its bar in every opening
pub record WaitsBarred (t : Tables) (orders : List CallOrder) (days : List DayRecord)
    (marks : List Mark) (place : ℕ) (w : Wish) : Type 0 where
  pub waits : WaitsAt (record { dossier = dossier_of t; marks = marks }) place w
  pub barred : All (IsBarredIn w) (openings None orders (first_evening (dossier_of t)) days)

-- ---- somebody quits: as 101 quits, a seat is left for 102 too, who wants the one bed and ranks
-- before 103 there; so 103 loses the offer of wish 3
abbrev pub if_answered : List AnswerRow → Tables
if_answered answers =
    record (tables (group 1 0 ∷ []) (programme 10 1 2 ∷ []) (school 51 1 ∷ []) (by_rank 1 (101
    ∷ 103 ∷ 102 ∷ []))
    (boarded 51 (102 ∷ 103 ∷ [])) (wish 1 101 10 None 0 ∷ wish 2 102 10 (Some 51) 0
    ∷ wish 3 103 10 (Some 51) 0 ∷ [])) { answers = answers }

abbrev pub QuittingCanCost : Type 0
QuittingCanCost =
    Ends (if_answered []) (plain (101 ∷ 103 ∷ 102 ∷ []) ∷ [])
    (day 1 (quiet (9 ∷ []) [] (0 ∷ 2 ∷ []) ∷ []) (0 ∷ []) (0 ∷ []) ∷ [])
    (marked Offered 1 1 ∷ marked Waiting 0 0 ∷ marked Offered 1 1 ∷ [])
    × Ends (if_answered (record { day = 1; kind = Quit; target = 101 } ∷ [])) (plain (101 ∷ 103
    ∷ 102 ∷ []) ∷ [])
    (day 1 (quiet (1 ∷ []) (fall 0 9 1 (1 ∷ 2 ∷ []) ∷ []) (1 ∷ []) ∷ []) (1 ∷ []) (0 ∷ []) ∷ [])
    (marked HasQuit 1 0 ∷ marked Offered 1 1 ∷ marked Waiting 0 0 ∷ [])

-- ---- a seat more: with one seat of the first programme 103 gets it, and the second programme,
-- both with the one bed. With two 102 is called too and ranks before 103 for the bed; as 103 is
-- barred in the second programme too, 101 is called there, who ranks first: 101 gets the bed, and
-- nobody the first programme
abbrev pub with_more_seats : ℕ → Tables
with_more_seats seats =
    tables (group 1 0 ∷ []) (programme 10 1 seats ∷ programme 20 1 1 ∷ []) (school 51 1 ∷ [])
    (by_rank 1 (103 ∷ 101 ∷ 102 ∷ []))
    (boarded 51 (101 ∷ 102 ∷ 103 ∷ [])) (wish 1 103 10 (Some 51) 0 ∷ wish 2 103 20 (Some 51) 0
    ∷ wish 3 102 10 (Some 51) 0 ∷ wish 4 101 20 (Some 51) 0 ∷ [])

abbrev pub SeatMoreCanEmpty : Type 0
SeatMoreCanEmpty =
    Ends (with_more_seats 1) (plain (103 ∷ 101 ∷ 102 ∷ []) ∷ [])
    (day 1 (quiet (9 ∷ []) [] (0 ∷ 1 ∷ []) ∷ []) (0 ∷ 0 ∷ []) (0 ∷ []) ∷ [])
    (marked Offered 1 1 ∷ marked Offered 1 1 ∷ marked Waiting 0 0 ∷ marked Waiting 0 0 ∷ [])
    × Ends (with_more_seats 2) (plain (103 ∷ 101 ∷ 102 ∷ []) ∷ [])
    (day 1 (quiet (1 ∷ []) (fall 0 9 2 (2 ∷ 0 ∷ []) ∷ fall 0 2 1 (3 ∷ 2 ∷ []) ∷ []) (3 ∷ [])
    ∷ []) (2 ∷ 0 ∷ []) (0 ∷ []) ∷ [])
    (marked Waiting 0 0 ∷ marked Waiting 0 0 ∷ marked Waiting 0 0 ∷ marked Offered 1 1 ∷ [])

-- ---- a wish left out: with all four wishes each of the two gets their second; as 101 leaves
-- their second out, 102's first seat stays free, 102 gives 101's first one up, and each gets their
-- first
abbrev pub with_own_wishes : List WishRow → Tables
with_own_wishes wishes =
    tables (group 1 0 ∷ group 2 0 ∷ []) (programme 10 1 1 ∷ programme 20 2 1
    ∷ []) [] (by_rank 1 (102 ∷ 101 ∷ []) ++ by_rank 2 (101 ∷ 102 ∷ []))
    [] wishes

abbrev pub LeavingOutCanPay : Type 0
LeavingOutCanPay =
    Ends (with_own_wishes (wish 1 102 20 None 1 ∷ wish 2 101 10 None 1 ∷ wish 3 102 10 None 2
    ∷ wish 4 101 20 None 2 ∷ [])) (plain (102 ∷ 101 ∷ []) ∷ plain (101 ∷ 102 ∷ []) ∷ [])
    (day 1 (freeing [] [] (2 ∷ 3 ∷ []) (change 2 Accepted ∷ change 3 Accepted ∷ []) 0 0 ∷ [])
    (0 ∷ 0 ∷ []) [] ∷ [])
    (marked Waiting 0 0 ∷ marked Waiting 0 0 ∷ marked Accepted 1 1 ∷ marked Accepted 1 1 ∷ [])
    × Ends (with_own_wishes (wish 1 102 20 None 1 ∷ wish 2 101 10 None 1 ∷ wish 3 102 10 None 2
    ∷ [])) (plain (102 ∷ 101 ∷ []) ∷ plain (101 ∷ 102 ∷ []) ∷ [])
    (day 1 (freeing [] [] (0 ∷ 2 ∷ []) (change 0 Accepted ∷ change 2 AutoRefused ∷ []) 1 0
    ∷ freeing [] [] (1 ∷ []) (change 1 Accepted ∷ []) 0 0 ∷ []) (0 ∷ 0 ∷ []) [] ∷ [])
    (marked Accepted 1 1 ∷ marked Accepted 1 2 ∷ marked AutoRefused 1 1 ∷ [])

-- ---- a better rank on an automatic day: as second in the first programme 102 gets the second
-- one, which they prefer; as first there they get the first, and wait for the second
abbrev pub with_first_order : List ℕ → Tables
with_first_order ranking =
    tables (group 1 0 ∷ group 2 0 ∷ []) (programme 10 1 1 ∷ programme 20 2 1
    ∷ []) [] (by_rank 1 ranking ++ by_rank 2 (101 ∷ 102 ∷ []))
    [] (wish 1 101 10 None 1 ∷ wish 2 102 20 None 1 ∷ wish 3 101 20 None 2
    ∷ wish 4 102 10 None 2 ∷ [])

abbrev pub BetterRankCanHarm : Type 0
BetterRankCanHarm =
    Ends (with_first_order (101 ∷ 102 ∷ [])) (plain (101 ∷ 102 ∷ []) ∷ plain (101 ∷ 102 ∷ [])
    ∷ [])
    (day 1 (freeing [] [] (0 ∷ 2 ∷ []) (change 0 Accepted ∷ change 2 AutoRefused ∷ []) 1 0
    ∷ freeing [] [] (1 ∷ []) (change 1 Accepted ∷ change 3 AutoWithdrawn ∷ []) 0 0 ∷ []) (0 ∷ 0
    ∷ []) [] ∷ [])
    (marked Accepted 1 1 ∷ marked Accepted 1 2 ∷ marked AutoRefused 1 1
    ∷ marked AutoWithdrawn 1 2 ∷ [])
    × Ends (with_first_order (102 ∷ 101 ∷ [])) (plain (102 ∷ 101 ∷ []) ∷ plain (101 ∷ 102 ∷ [])
    ∷ [])
    (day 1 (freeing [] [] (2 ∷ 3 ∷ []) (change 2 Accepted ∷ change 3 Accepted ∷ []) 0 0 ∷ [])
    (0 ∷ 0 ∷ []) [] ∷ [])
    (marked Waiting 0 0 ∷ marked Waiting 0 0 ∷ marked Accepted 1 1 ∷ marked Accepted 1 1 ∷ [])

-- ---- to confirm what is accepted: 101 is offered the first programme with boarding and has
-- accepted the second. Silent they are offered the first without boarding too, since who is live in
-- a programme needs no seat there; as they accept the second once more, they give the first up, and
-- wish 3 waits
abbrev pub if_accepted : List AnswerRow → Tables
if_accepted answers =
    record (tables (group 1 0 ∷ []) (programme 10 1 0 ∷ programme 20 1 0 ∷ []) (school 51 0
    ∷ []) (by_rank 1 (101 ∷ []))
    (boarded 51 (101 ∷ [])) (wish 1 101 10 (Some 51) 0 ∷ wish 2 101 20 None 0
    ∷ wish 3 101 10 None 0
    ∷ [])) {
      answers = answers;
      state = record { wish = 1; status = Offered; since = None }
          ∷ record { wish = 2; status = Accepted; since = None } ∷ [];
    }

abbrev pub AcceptingCanCost : Type 0
AcceptingCanCost =
    Ends (if_accepted []) (plain (101 ∷ []) ∷ [])
    (day 1 (quiet (9 ∷ []) [] (2 ∷ []) ∷ []) (0 ∷ 0 ∷ []) (0 ∷ []) ∷ [])
    (marked Offered 0 0 ∷ marked Accepted 0 0 ∷ marked Offered 1 1 ∷ [])
    × Ends (if_accepted (record { day = 1; kind = Accept; target = 2 } ∷ [])) (plain (101 ∷ [])
    ∷ [])
    (day 1 (quiet (9 ∷ []) [] [] ∷ []) (0 ∷ 0 ∷ []) (0 ∷ []) ∷ [])
    (marked Refused 1 0 ∷ marked Accepted 0 0 ∷ marked Waiting 0 0 ∷ [])

-- ---- to withdraw: while 102 waits for the second programme with the one bed, 101, who ranks
-- behind there, is barred; as 102 withdraws wish 1, 101 gets the bed, and with it the seat that 102
-- had by wish 2
abbrev pub if_withdrawn : List AnswerRow → Tables
if_withdrawn answers =
    record (tables (group 1 0 ∷ []) (programme 10 1 1 ∷ programme 20 1 1 ∷ []) (school 51 1
    ∷ []) (by_rank 1 (101 ∷ 102 ∷ []))
    (boarded 51 (102 ∷ 101 ∷ [])) (wish 1 102 20 (Some 51) 0 ∷ wish 2 102 10 None 0
    ∷ wish 3 101 10 (Some 51) 0 ∷ [])) { answers = answers }

abbrev pub WithdrawingCanCost : Type 0
WithdrawingCanCost =
    Ends (if_withdrawn []) (plain (101 ∷ 102 ∷ []) ∷ [])
    (day 1 (quiet (1 ∷ []) (fall 0 9 1 (0 ∷ 2 ∷ []) ∷ []) (0 ∷ 1 ∷ []) ∷ []) (0 ∷ 0 ∷ []) (0
    ∷ []) ∷ [])
    (marked Offered 1 1 ∷ marked Offered 1 1 ∷ marked Waiting 0 0 ∷ [])
    × Ends (if_withdrawn (record { day = 1; kind = Withdraw; target = 1 } ∷ [])) (plain (101
    ∷ 102 ∷ []) ∷ [])
    (day 1 (quiet (9 ∷ []) [] (2 ∷ []) ∷ []) (0 ∷ 1 ∷ []) (0 ∷ []) ∷ [])
    (marked Withdrawn 1 0 ∷ marked Waiting 0 0 ∷ marked Offered 1 1 ∷ [])

-- ---- to withdraw can pay too: 101 waits with both schools, and 102, who ranks behind them in the
-- first one, is barred there. So 103 is called, who ranks before 101 in both and gets the two beds:
-- on neither day has 101 an offer, and wish 1 is behind its bar in every opening. As they withdraw
-- it, 102 gets the first school's bed, 103 is not called, and 101 gets the other bed by wish 2
abbrev pub if_given_up : List AnswerRow → Tables
if_given_up answers =
    record (tables (group 1 0 ∷ []) (programme 10 1 2 ∷ []) (school 51 1 ∷ school 52 1 ∷ [])
    (by_rank 1 (101 ∷ 102 ∷ 103 ∷ []))
    (boarded 51 (103 ∷ 101 ∷ 102 ∷ []) ++ boarded 52 (103 ∷ 101 ∷ []))
    (wish 1 101 10 (Some 51) 0 ∷ wish 2 101 10 (Some 52) 0 ∷ wish 3 102 10 (Some 51) 0
    ∷ wish 4 103 10 (Some 51) 0 ∷ wish 5 103 10 (Some 52) 0 ∷ [])) { answers = answers }

abbrev pub three_by_rank : List CallOrder
three_by_rank = plain (101 ∷ 102 ∷ 103 ∷ []) ∷ []

abbrev pub kept_wish : Wish
kept_wish = boarder 1 101 0 0 2 0

abbrev pub days_if_kept : List DayRecord
days_if_kept =
    day 1 (quiet (1 ∷ 1 ∷ []) (fall 0 9 2 (0 ∷ 2 ∷ []) ∷ fall 0 2 1 (3 ∷ 0 ∷ [])
    ∷ fall 1 9 1 (4 ∷ 1 ∷ []) ∷ []) (3 ∷ 4 ∷ []) ∷ []) (1 ∷ []) (0 ∷ 0 ∷ [])
    ∷ day 2 (quiet (1 ∷ 1 ∷ []) (fall 0 9 1 (0 ∷ []) ∷ fall 1 9 1 (1 ∷ []) ∷ []) [] ∷ [])
    (1 ∷ []) (0 ∷ 0 ∷ []) ∷ []

abbrev pub marks_if_kept : List Mark
marks_if_kept =
    marked Waiting 0 0 ∷ marked Waiting 0 0 ∷ marked Waiting 0 0 ∷ marked Offered 1 1
    ∷ marked Offered 1 1 ∷ []

abbrev pub WithdrawingCanPay : Type 0
WithdrawingCanPay =
    Ends (if_given_up []) three_by_rank days_if_kept marks_if_kept
    × WaitsBarred (if_given_up []) three_by_rank days_if_kept marks_if_kept 0 kept_wish
    × Ends (if_given_up (record { day = 1; kind = Withdraw; target = 1 } ∷ [])) three_by_rank
    (day 1 (quiet (9 ∷ 9 ∷ []) [] (1 ∷ 2 ∷ []) ∷ []) (0 ∷ []) (0 ∷ 0 ∷ [])
    ∷ day 2 (quiet (9 ∷ 9 ∷ []) [] [] ∷ []) (0 ∷ []) (0 ∷ 0 ∷ []) ∷ [])
    (marked Withdrawn 1 0 ∷ marked Offered 1 1 ∷ marked Offered 1 1 ∷ marked Waiting 0 0
    ∷ marked Waiting 0 0 ∷ [])

-- ---- to accept earlier: on day 1 101 is offered wish 1. Having accepted wish 2 that morning, they
-- keep both; accepting it on day 2, they give wish 1 up, and 102 gets that seat by wish 3
abbrev pub if_accepted_on : List AnswerRow → Tables
if_accepted_on answers =
    record (tables (group 1 0 ∷ []) (programme 10 1 1 ∷ programme 20 1 0
    ∷ []) [] (by_rank 1 (101 ∷ 102 ∷ []))
    [] (wish 1 101 10 None 0 ∷ wish 2 101 20 None 0 ∷ wish 3 102 10 None 0
    ∷ [])) { answers = answers; state = record { wish = 2; status = Offered; since = None } ∷ [] }

abbrev pub AcceptingEarlierCanCost : Type 0
AcceptingEarlierCanCost =
    Ends (if_accepted_on (record { day = 1; kind = Accept; target = 2 } ∷ [])) (plain (101
    ∷ 102 ∷ []) ∷ [])
    (day 1 (quiet [] [] (0 ∷ []) ∷ []) (0 ∷ 0 ∷ []) [] ∷ day 2 (quiet [] [] [] ∷ []) (0 ∷ 0
    ∷ []) [] ∷ [])
    (marked Offered 1 1 ∷ marked Accepted 1 0 ∷ marked Waiting 0 0 ∷ [])
    × Ends (if_accepted_on (record { day = 2; kind = Accept; target = 2 } ∷ [])) (plain (101
    ∷ 102 ∷ []) ∷ [])
    (day 1 (quiet [] [] (0 ∷ []) ∷ []) (0 ∷ 0 ∷ []) [] ∷ day 2 (quiet [] [] (2 ∷ []) ∷ []) (0
    ∷ 0 ∷ []) [] ∷ [])
    (marked Refused 2 0 ∷ marked Accepted 2 0 ∷ marked Offered 2 1 ∷ [])

-- ---- answers split over two days: 101 quits and 102 accepts wish 2 on one day, and is then
-- offered wish 1 too, which they keep; as 102 accepts a day later, they give wish 1 up
abbrev pub if_split : List AnswerRow → Tables
if_split answers =
    record (tables (group 1 0 ∷ []) (programme 10 1 1 ∷ programme 20 1 1
    ∷ []) [] (by_rank 1 (101 ∷ 102 ∷ []))
    [] (wish 1 102 10 None 0 ∷ wish 2 102 20 None 0 ∷ wish 3 101 10 None 0
    ∷ [])) { answers = answers }

abbrev pub AnswersCannotBeSplit : Type 0
AnswersCannotBeSplit =
    Ends (if_split (record { day = 2; kind = Quit; target = 101 }
    ∷ record { day = 2; kind = Accept; target = 2 } ∷ [])) (plain (101 ∷ 102 ∷ []) ∷ [])
    (day 1 (quiet [] [] (1 ∷ 2 ∷ []) ∷ []) (0 ∷ 0 ∷ []) [] ∷ day 2 (quiet [] [] (0 ∷ []) ∷ [])
    (0 ∷ 0 ∷ []) [] ∷ day 3 (quiet [] [] [] ∷ []) (0 ∷ 0 ∷ []) [] ∷ [])
    (marked Offered 2 1 ∷ marked Accepted 2 0 ∷ marked HasQuit 2 0 ∷ [])
    × Ends (if_split (record { day = 2; kind = Quit; target = 101 }
    ∷ record { day = 3; kind = Accept; target = 2 } ∷ [])) (plain (101 ∷ 102 ∷ []) ∷ [])
    (day 1 (quiet [] [] (1 ∷ 2 ∷ []) ∷ []) (0 ∷ 0 ∷ []) [] ∷ day 2 (quiet [] [] (0 ∷ []) ∷ [])
    (0 ∷ 0 ∷ []) [] ∷ day 3 (quiet [] [] [] ∷ []) (1 ∷ 0 ∷ []) [] ∷ [])
    (marked Refused 3 0 ∷ marked Accepted 3 0 ∷ marked HasQuit 2 0 ∷ [])

-- ---- a bed more: without a bed the bar of the day's last pass is 1; with one it is 0, since 101
-- gives up the second programme for the first, and 102 is called there in a second pass
abbrev pub with_beds : ℕ → Tables
with_beds beds =
    tables (group 1 0 ∷ []) (programme 10 1 1 ∷ programme 20 1 1 ∷ []) (school 51 beds ∷ [])
    (by_rank 1 (101 ∷ 102 ∷ []))
    (boarded 51 (102 ∷ 101 ∷ [])) (wish 1 101 10 (Some 51) 1 ∷ wish 2 101 20 None 2
    ∷ wish 3 102 20 (Some 51) 0 ∷ [])

abbrev pub BedMoreCanLowerBar : Type 0
BedMoreCanLowerBar =
    Ends (with_beds 0) (plain (101 ∷ 102 ∷ []) ∷ [])
    (day 1 (freeing (1 ∷ []) (fall 0 9 1 (0 ∷ []) ∷ []) (1 ∷ []) (change 1 Accepted ∷ []) 0 0
    ∷ []) (1 ∷ 0 ∷ []) (0 ∷ []) ∷ [])
    (marked Waiting 0 0 ∷ marked Accepted 1 1 ∷ marked Waiting 0 0 ∷ [])
    × Ends (with_beds 1) (plain (101 ∷ 102 ∷ []) ∷ [])
    (day 1 (freeing (9 ∷ []) [] (0 ∷ 1 ∷ []) (change 0 Accepted ∷ change 1 AutoRefused
    ∷ []) 1 0 ∷ quiet (0 ∷ []) (fall 0 9 0 (2 ∷ []) ∷ []) [] ∷ []) (0 ∷ 1 ∷ []) (0 ∷ []) ∷ [])
    (marked Accepted 1 1 ∷ marked AutoRefused 1 1 ∷ marked Waiting 0 0 ∷ [])

-- ---- a seat more can leave fewer placed: without a seat in the first programme both get one of
-- the second, 101 with the one bed; with one, 102 is called there with the bed, in which they rank
-- first, and keeps both seats, while 101 is barred
abbrev pub with_first_seats : ℕ → Tables
with_first_seats seats =
    tables (group 1 0 ∷ []) (programme 10 1 seats ∷ programme 20 1 2 ∷ []) (school 51 1 ∷ [])
    (by_rank 1 (101 ∷ 102 ∷ [])) (boarded 51 (102 ∷ 101 ∷ []))
    (wish 1 101 20 (Some 51) 0 ∷ wish 2 102 20 None 0 ∷ wish 3 102 10 (Some 51) 0 ∷ [])

abbrev pub SeatMoreCanPlaceFewer : Type 0
SeatMoreCanPlaceFewer =
    Ends (with_first_seats 0) (plain (101 ∷ 102 ∷ []) ∷ [])
    (day 1 (quiet (9 ∷ []) [] (0 ∷ 1 ∷ []) ∷ []) (0 ∷ 0 ∷ []) (0 ∷ []) ∷ [])
    (marked Offered 1 1 ∷ marked Offered 1 1 ∷ marked Waiting 0 0 ∷ [])
    × Ends (with_first_seats 1) (plain (101 ∷ 102 ∷ []) ∷ [])
    (day 1 (quiet (1 ∷ []) (fall 0 9 1 (2 ∷ 0 ∷ []) ∷ []) (1 ∷ 2 ∷ []) ∷ []) (0 ∷ 1 ∷ [])
    (0 ∷ []) ∷ [])
    (marked Waiting 0 0 ∷ marked Offered 1 1 ∷ marked Offered 1 1 ∷ [])

-- ---- so can a bed more: without it 102 gets the seat of the second programme that 101, who is
-- called first, can only take with a bed; with it 101 gets both programmes
abbrev pub with_first_bed : ℕ → Tables
with_first_bed beds =
    tables (group 1 0 ∷ []) (programme 10 1 1 ∷ programme 20 1 1 ∷ []) (school 51 beds ∷ [])
    (by_rank 1 (101 ∷ 102 ∷ [])) (boarded 51 (101 ∷ []))
    (wish 1 101 20 (Some 51) 0 ∷ wish 2 101 10 None 0 ∷ wish 3 102 20 None 0 ∷ [])

abbrev pub BedMoreCanPlaceFewer : Type 0
BedMoreCanPlaceFewer =
    Ends (with_first_bed 0) (plain (101 ∷ 102 ∷ []) ∷ [])
    (day 1 (quiet (0 ∷ []) (fall 0 9 0 (0 ∷ []) ∷ []) (1 ∷ 2 ∷ []) ∷ []) (0 ∷ 0 ∷ []) (0 ∷ []) ∷ [])
    (marked Waiting 0 0 ∷ marked Offered 1 1 ∷ marked Offered 1 1 ∷ [])
    × Ends (with_first_bed 1) (plain (101 ∷ 102 ∷ []) ∷ [])
    (day 1 (quiet (9 ∷ []) [] (0 ∷ 1 ∷ []) ∷ []) (0 ∷ 0 ∷ []) (0 ∷ []) ∷ [])
    (marked Offered 1 1 ∷ marked Offered 1 1 ∷ marked Waiting 0 0 ∷ [])

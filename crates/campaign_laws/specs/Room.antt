-- Never more than there is: how many are live in a school or a programme.
use Rattle.std.specs.Prelude.{◌≡◌, ◌&&◌, ◌+◌, ◌≤◌, ◌<◌, ℕ, All, Bool, List, Option, filter, length, max, nat_eq, nat_le}
use Rattle.std.specs.Prelude.{not}
use Rattle.std.specs.List.{before_first}
use Rattle.admit_core.specs.declared.ranking.CallOrder.{CallOrder}
use Rattle.admit_core.specs.declared.records.DayRecord.{DayRecord}
use Rattle.admit_core.specs.declared.records.Terms.{Terms}
use Rattle.admit_core.specs.CallOrder.{AreCallOrders}
use Rattle.admit_core.specs.Days.{Days}
use Rattle.admit_core.specs.DossierRows.{DossierRows, beds_of, candidates_of, limit_of, seats_of}
use Rattle.admit_core.specs.Lapses.{AreTermsFor}
use Rattle.admit_core.specs.Proposals.{order_of}
use Rattle.admit_core.specs.State.{State, bed_holders, holds_seat, seat_holders}
use Rattle.admit_core.specs.Validity.{IsValid}
use Rattle.campaign_laws.specs.Moments.{moments}

-- no more are live in the school than it has beds, or were live at first
abbrev pub FitsBedsOf : State → ℕ → State → Type 0
FitsBedsOf old h s =
    length (bed_holders s h) ≤ max (beds_of old.dossier h) (length (bed_holders old h))

-- no more are live in the programme than it has seats, or were live at first
abbrev pub FitsSeatsOf : State → ℕ → State → Type 0
FitsSeatsOf old p s =
    length (seat_holders s p) ≤ max (seats_of old.dossier p) (length (seat_holders old p))

-- so it is at each moment: in every school, and in every programme without a call limit
abbrev pub NeverMoreThanBeds : Type 0
NeverMoreThanBeds =
    (terms : Option Terms) (orders : List CallOrder) (d : ℕ) (old : State) (days : List DayRecord)
    (new : State) (h : ℕ)
    → IsValid old.dossier
    → AreTermsFor old.dossier terms
    → Days terms orders d old days new
    → h < length old.dossier.schools
    → All (FitsBedsOf old h) (moments terms orders old days)

abbrev pub NeverMoreThanSeats : Type 0
NeverMoreThanSeats =
    (terms : Option Terms) (orders : List CallOrder) (d : ℕ) (old : State) (days : List DayRecord)
    (new : State) (p : ℕ)
    → IsValid old.dossier
    → AreCallOrders old.dossier.groups orders
    → AreTermsFor old.dossier terms
    → Days terms orders d old days new
    → p < length old.dossier.programmes
    → limit_of old.dossier p ≡ 0
    → All (FitsSeatsOf old p) (moments terms orders old days)

-- a programme's limit calls a candidate whose position is no greater
abbrev pub is_called_by_limit : DossierRows → List CallOrder → ℕ → ℕ → Bool
is_called_by_limit d orders p c =
    nat_le (length (before_first (nat_eq c) (order_of d orders p)) + 1) (limit_of d p)

-- those who are live in the programme, and whom its limit does not call
abbrev pub beyond_limit : List CallOrder → State → ℕ → List ℕ
beyond_limit orders s p =
    filter (λ c. holds_seat s c p && not (is_called_by_limit s.dossier orders p c))
    (candidates_of s.dossier)

-- they are no more than the programme has seats, or than they were at first; so with those whom the
-- limit calls, no more than that and the limit
pub record FitsSeatsAndLimitOf (orders : List CallOrder) (old : State) (p : ℕ)
    (s : State) : Type 0 where
  pub beyond : length (beyond_limit orders s p)
      ≤ max (seats_of old.dossier p) (length (beyond_limit orders old p))
  pub all : length (seat_holders s p)
      ≤ max (seats_of old.dossier p) (length (beyond_limit orders old p)) + limit_of old.dossier p

-- so it is at each moment in every programme
abbrev pub NeverMoreThanSeatsAndLimit : Type 0
NeverMoreThanSeatsAndLimit =
    (terms : Option Terms) (orders : List CallOrder) (d : ℕ) (old : State) (days : List DayRecord)
    (new : State) (p : ℕ)
    → IsValid old.dossier
    → AreCallOrders old.dossier.groups orders
    → AreTermsFor old.dossier terms
    → Days terms orders d old days new
    → All (FitsSeatsAndLimitOf orders old p) (moments terms orders old days)

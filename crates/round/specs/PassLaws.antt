-- What holds of every pass: how many candidates become live, where bars are lowered, and how many
-- falls there are.
use Rattle.std.specs.Prelude.{◌≡◌, ℕ, ◌<◌, ◌≤◌, not, ◌&&◌, List, length, filter, count_by, max, is_some, slice_index}
use Rattle.admit_core.specs.declared.ranking.CallOrder.{CallOrder}
use Rattle.admit_core.specs.declared.records.Fall.{Fall}
use Rattle.admit_core.specs.declared.records.PassRecord.{PassRecord}
use Rattle.admit_core.specs.declared.state.Stamp.{Stamp}
use Rattle.admit_core.specs.CallOrder.{AreCallOrders}
use Rattle.admit_core.specs.DossierRows.{limit_of}
use Rattle.admit_core.specs.Validity.{IsValid}
use Rattle.admit_core.specs.State.{State, entries, is_waiting, holds_seat, holds_bed, seat_holders, bed_holders}
use Rattle.admit_core.specs.State.{seats_left, free_beds}
use Rattle.admit_core.specs.Falls.{Fits, IsGreatest, AreFalls}
use Rattle.admit_core.specs.Boarding.{boarding}
use Rattle.admit_core.specs.Days.{offered}

-- the candidates who are live in a programme, or in a school, and were not before, each once
abbrev pub new_seat_holders : State → State → ℕ → List ℕ
new_seat_holders old new p = filter (λ c. not (holds_seat old c p)) (seat_holders new p)

abbrev pub new_bed_holders : State → State → ℕ → List ℕ
new_bed_holders old new h = filter (λ c. not (holds_bed old c h)) (bed_holders new h)

-- no programme takes in more candidates than it has seats left, or than its call limit where that
-- is greater
abbrev pub FitsSeats : State → State → Type 0
FitsSeats old new = (p : ℕ)
    → length (new_seat_holders old new p) ≤ max (seats_left old p) (limit_of old.dossier p)

-- no school takes in more candidates than it has free beds
abbrev pub FitsBeds : State → State → Type 0
FitsBeds old new = (h : ℕ) → h < length old.dossier.schools
    → length (new_bed_holders old new h) ≤ free_beds old h

-- where a bar is below its ceiling, the school takes in exactly as many candidates as it has free
-- beds
abbrev pub LowersForBeds : State → State → List ℕ → List ℕ → Type 0
LowersForBeds old new ceilings bars = (h : ℕ) → slice_index bars h < slice_index ceilings h
    → length (new_bed_holders old new h) ≡ free_beds old h

-- how many wishes with a school wait
abbrev pub waiting_boarders : State → ℕ
waiting_boarders s = count_by (λ (w, m). is_waiting m && is_some w.school) (entries s)

-- what a pass keeps: no programme takes in more than its seats or its call limit, and no school
-- more than its beds; a bar is below its ceiling only where exactly the free beds were taken; and
-- bars fall at most as often as wishes with a school wait
pub record KeepsPassLaws (old new : State) (ceilings : List ℕ) (pass : PassRecord) : Type 0 where
  pub seats : FitsSeats old new
  pub beds : FitsBeds old new
  pub lowered : LowersForBeds old new ceilings pass.bars
  pub few : length pass.falls ≤ waiting_boarders old

-- offers fit the seats and the call limits, under whatever bars
abbrev pub OffersFitSeats : Type 0
OffersFitSeats =
    (s : State) (orders : List CallOrder) (bars : List ℕ) (stamp : Stamp)
    → IsValid s.dossier → AreCallOrders s.dossier.groups orders
    → FitsSeats s (offered s orders bars stamp)

-- offers under bars that fit, fit the beds
abbrev pub OffersFitBeds : Type 0
OffersFitBeds =
    (s : State) (orders : List CallOrder) (ceilings bars : List ℕ) (stamp : Stamp)
    → IsValid s.dossier → length ceilings ≡ length s.dossier.schools
    → Fits (boarding s orders ceilings) bars
    → FitsBeds s (offered s orders bars stamp)

-- the greatest bars are lowered for beds alone
abbrev pub GreatestBarsAreLoweredForBeds : Type 0
GreatestBarsAreLoweredForBeds =
    (s : State) (orders : List CallOrder) (ceilings bars : List ℕ) (stamp : Stamp)
    → IsValid s.dossier → IsGreatest (boarding s orders ceilings) bars
    → LowersForBeds s (offered s orders bars stamp) ceilings bars

-- bars fall at most as often as there are waiting wishes with a school: each fall bars one for good
abbrev pub FallsAreFew : Type 0
FallsAreFew =
    (s : State) (orders : List CallOrder) (ceilings : List ℕ) (falls : List Fall)
    → AreFalls (boarding s orders ceilings) ceilings falls
    → length falls ≤ waiting_boarders s

-- Seats and beds that are left in the evening.
use Rattle.std.specs.Prelude.{◌≡◌, ◌&&◌, ◌||◌, ℕ, All, Bool, IsTrue, List, None, Option, Some, false, nat_le, nat_lt}
use Rattle.std.specs.Prelude.{slice_index, true}
use Rattle.admit_core.specs.declared.dossier.Wish.{Wish}
use Rattle.admit_core.specs.declared.ranking.CallOrder.{CallOrder}
use Rattle.admit_core.specs.declared.records.DayRecord.{DayRecord}
use Rattle.admit_core.specs.declared.records.Terms.{Terms}
use Rattle.admit_core.specs.declared.state.Mark.{Mark}
use Rattle.admit_core.specs.CallOrder.{AreCallOrders}
use Rattle.admit_core.specs.Days.{IsDay}
use Rattle.admit_core.specs.State.{State, entries, free_beds, holds_bed, is_waiting, seats_left}
use Rattle.admit_core.specs.Validity.{IsValid}

-- the wish needs no bed: it has no school, or its candidate is live there; or one is free, and the
-- ceiling lets their rank through
abbrev pub is_bed_idle : State → List ℕ → Wish → Option ℕ → Bool
is_bed_idle s ceilings w None = true
is_bed_idle s ceilings w (Some h) =
    holds_bed s w.candidate h
    || (nat_lt 0 (free_beds s h) && nat_le w.board_rank (slice_index ceilings h))

-- and a seat of its programme is left too
abbrev pub are_both_idle : State → List ℕ → Wish → Bool
are_both_idle s ceilings w =
    nat_lt 0 (seats_left s w.programme) && is_bed_idle s ceilings w w.school

-- in the evening of a day no wish waits for which both are idle
abbrev pub IsNotKeptWaiting : State → List ℕ → Wish × Mark → Type 0
IsNotKeptWaiting s ceilings (w, m) = IsTrue (is_waiting m) → are_both_idle s ceilings w ≡ false

abbrev pub SeatAndBedAreNeverBothIdle : Type 0
SeatAndBedAreNeverBothIdle =
    (terms : Option Terms) (orders : List CallOrder) (ceilings : List ℕ) (old : State)
    (day : DayRecord) (evening : State)
    → IsValid old.dossier
    → AreCallOrders old.dossier.groups orders
    → IsDay terms orders ceilings old day evening
    → All (IsNotKeptWaiting evening ceilings) (entries evening)

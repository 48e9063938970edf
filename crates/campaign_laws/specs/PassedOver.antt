-- Who becomes live in a programme while a wish of it waits.
use Rattle.std.specs.Prelude.{◌≡◌, ℕ, All, IsTrue, List, None, Option, Some, false, slice_get}
use Rattle.admit_core.specs.declared.dossier.Wish.{Wish}
use Rattle.admit_core.specs.declared.ranking.CallOrder.{CallOrder}
use Rattle.admit_core.specs.declared.records.DayRecord.{DayRecord}
use Rattle.admit_core.specs.declared.records.Terms.{Terms}
use Rattle.admit_core.specs.declared.state.Mark.{Mark}
use Rattle.admit_core.specs.Days.{Days}
use Rattle.admit_core.specs.Lapses.{AreTermsFor}
use Rattle.admit_core.specs.Lists.{is_among}
use Rattle.admit_core.specs.Proposals.{before, is_behind_bar}
use Rattle.admit_core.specs.State.{State, entries, holds_seat, is_waiting}
use Rattle.campaign_laws.specs.Moments.{Opening, moments, openings}

-- the wish stands at this place of a state, and waits
pub record WaitsAt (s : State) (place : ℕ) (w : Wish) : Type 0 where
  pub mark : Mark
  pub there : slice_get (entries s) place ≡ Some (w, mark)
  pub waits : IsTrue (is_waiting mark)

-- in the opening of a pass the wish's candidate is behind no bar
abbrev pub IsUnbarred : Wish → Opening → Type 0
IsUnbarred w o = is_behind_bar o.state o.bars w w.school ≡ false

-- who is live in the wish's programme, and was not at first, stands before its candidate in the
-- call order
abbrev pub CameFromBefore : List CallOrder → State → Wish → State → Type 0
CameFromBefore orders old w s =
    (c : ℕ) → IsTrue (holds_seat s c w.programme) → holds_seat old c w.programme ≡ false
    → IsTrue (is_among c (before old orders w))

-- no candidate is passed over, at whatever moment, while a wish of theirs waits that no bar ever
-- stopped
abbrev pub NobodyIsEverPassedOver : Type 0
NobodyIsEverPassedOver =
    (terms : Option Terms) (orders : List CallOrder) (d : ℕ) (old : State) (days : List DayRecord)
    (new : State) (place : ℕ) (w : Wish)
    → AreTermsFor old.dossier terms
    → Days terms orders d old days new
    → WaitsAt new place w
    → All (IsUnbarred w) (openings terms orders old days)
    → All (CameFromBefore orders old w) (moments terms orders old days)

-- so where the wish has no school
abbrev pub NobodyIsPassedOverWithoutBoarding : Type 0
NobodyIsPassedOverWithoutBoarding =
    (terms : Option Terms) (orders : List CallOrder) (d : ℕ) (old : State) (days : List DayRecord)
    (new : State) (place : ℕ) (w : Wish)
    → AreTermsFor old.dossier terms
    → Days terms orders d old days new
    → WaitsAt new place w
    → w.school ≡ None
    → All (CameFromBefore orders old w) (moments terms orders old days)

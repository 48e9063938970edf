-- A wish that no bar ever stops and that waits to the end might as well not have been made.
use Rattle.std.specs.Prelude.{◌≡◌, ℕ, All, IsTrue, List, Option, length}
use Rattle.admit_core.specs.declared.dossier.Wish.{Wish}
use Rattle.admit_core.specs.declared.ranking.CallOrder.{CallOrder}
use Rattle.admit_core.specs.declared.records.DayRecord.{DayRecord}
use Rattle.admit_core.specs.declared.records.Terms.{Terms}
use Rattle.admit_core.specs.declared.state.Mark.{Mark}
use Rattle.admit_core.specs.Days.{Days}
use Rattle.admit_core.specs.Lapses.{AreTermsFor}
use Rattle.admit_core.specs.State.{State, is_gone, with_mark_at}
use Rattle.campaign_laws.specs.Moments.{openings}
use Rattle.campaign_laws.specs.PassedOver.{IsUnbarred, WaitsAt}

-- where it was given up before, by whatever mark, the days are the same
abbrev pub UnbarredWishMayBeStruckOut : Type 0
UnbarredWishMayBeStruckOut =
    (terms : Option Terms) (orders : List CallOrder) (d : ℕ) (old : State) (days : List DayRecord)
    (new : State) (place : ℕ) (w : Wish) (gone : Mark)
    → AreTermsFor old.dossier terms
    → length old.marks ≡ length old.dossier.wishes
    → Days terms orders d old days new
    → WaitsAt new place w
    → All (IsUnbarred w) (openings terms orders old days)
    → IsTrue (is_gone gone)
    → Days terms orders d (with_mark_at old place gone) days (with_mark_at new place gone)

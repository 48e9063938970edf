-- What can become of one mark, from one moment of a campaign to a later one.
use Rattle.std.specs.Prelude.{◌≡◌, ◌∷◌, ℕ, false, AllPairs, IsTrue, List, Option}
use Rattle.std.specs.List.{AllZip}
use Rattle.admit_core.specs.declared.dossier.Wish.{Wish}
use Rattle.admit_core.specs.declared.ranking.CallOrder.{CallOrder}
use Rattle.admit_core.specs.declared.records.DayRecord.{DayRecord}
use Rattle.admit_core.specs.declared.records.Terms.{Terms}
use Rattle.admit_core.specs.declared.state.Mark.{Mark}
use Rattle.admit_core.specs.Days.{Days}
use Rattle.admit_core.specs.Lapses.{AreTermsFor}
use Rattle.admit_core.specs.State.{State, entries, is_gone, is_live, is_waiting}
use Rattle.campaign_laws.specs.Moments.{moments}

-- what is gone stays as it is, stamp and all; what is live never waits again; and what waits has
-- waited all the time
pub record IsLaterMark (m n : Mark) : Type 0 where
  pub gone_stays : IsTrue (is_gone m) → n ≡ m
  pub never_again : IsTrue (is_live m) → is_waiting n ≡ false
  pub waited : IsTrue (is_waiting n) → n ≡ m

-- the same wish, with a later mark
pub record HasLaterMark (e f : Wish × Mark) : Type 0 where
  pub wish : f.0 ≡ e.0
  pub mark : IsLaterMark e.1 f.1

-- so it is with each wish, of any two moments of a campaign
abbrev pub IsLater : State → State → Type 0
IsLater earlier later = AllZip HasLaterMark (entries earlier) (entries later)

abbrev pub GoneStaysGone : Type 0
GoneStaysGone =
    (terms : Option Terms) (orders : List CallOrder) (d : ℕ) (old : State) (days : List DayRecord)
    (new : State)
    → AreTermsFor old.dossier terms
    → Days terms orders d old days new
    → AllPairs IsLater (old ∷ moments terms orders old days)

-- What the automatic answers never read: the order of the wishes above what their candidate has.
use Rattle.std.specs.Prelude.{◌≡◌, ◌≤◌, ◌⊎◌, ℕ, All, IsTrue, List, Option, map}
use Rattle.admit_core.specs.declared.dossier.Wish.{Wish}
use Rattle.admit_core.specs.declared.ranking.CallOrder.{CallOrder}
use Rattle.admit_core.specs.declared.records.DayRecord.{DayRecord}
use Rattle.admit_core.specs.declared.records.Terms.{Terms}
use Rattle.admit_core.specs.declared.state.Mark.{Mark}
use Rattle.admit_core.specs.Days.{Days}
use Rattle.admit_core.specs.Lapses.{AreTermsFor}
use Rattle.admit_core.specs.State.{State, entries, is_waiting}
use Rattle.campaign_laws.specs.Kept.{GivesNoAnswer, has_accepted}

-- the wishes with the preference numbers that a function gives, and the state over them
abbrev pub with_preference : (Wish → ℕ) → Wish → Wish
with_preference rank w = record w { preference = rank w }

abbrev pub reranked : (Wish → ℕ) → State → State
reranked rank s =
    record s {
      dossier = record s.dossier { wishes = map (with_preference rank) s.dossier.wishes };
    }

-- a wish keeps its preference; or it is of this candidate and waits, and has one that is no greater
-- than that of any wish which the candidate has accepted
abbrev pub IsUnread : (Wish → ℕ) → ℕ → State → Wish × Mark → Type 0
IsUnread rank c s e =
    (rank e.0 ≡ e.0.preference)
    ⊎ ((e.0.candidate ≡ c) × IsTrue (is_waiting e.1)
    × ((n : ℕ) → IsTrue (has_accepted s c n) → rank e.0 ≤ n))

-- where it is so in the last evening, the days are the same
abbrev pub OrderAboveIsNeverRead : Type 0
OrderAboveIsNeverRead =
    (terms : Option Terms) (orders : List CallOrder) (d : ℕ) (old : State) (days : List DayRecord)
    (new : State) (c : ℕ) (rank : Wish → ℕ)
    → AreTermsFor old.dossier terms
    → Days terms orders d old days new
    → GivesNoAnswer old c days
    → All (IsUnread rank c new) (entries new)
    → Days terms orders d (reranked rank old) days (reranked rank new)

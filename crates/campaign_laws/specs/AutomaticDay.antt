-- What an automatic day is: its evening is the worst stable matching for every candidate.
use Rattle.std.specs.Prelude.{◌≡◌, ◌≤◌, ◌<◌, ◌&&◌, ◌||◌, ◌==◌, ℕ, All, AllPairs, Bool, IsTrue, List, None, [], false}
use Rattle.std.specs.Prelude.{length, nat_le}
use Rattle.std.specs.List.{list_any}
use Rattle.admit_core.specs.declared.dossier.Wish.{Wish}
use Rattle.admit_core.specs.declared.ranking.CallOrder.{CallOrder}
use Rattle.admit_core.specs.declared.records.DayRecord.{DayRecord}
use Rattle.admit_core.specs.declared.state.Mark.{Mark}
use Rattle.admit_core.specs.Blocking.{blocking, is_missed}
use Rattle.admit_core.specs.CallOrder.{AreCallOrders}
use Rattle.admit_core.specs.Days.{Days, first_evening}
use Rattle.admit_core.specs.DossierRows.{DossierRows, seats_of}
use Rattle.admit_core.specs.State.{State, entries, is_live, is_waiting_status, seat_holders}
use Rattle.admit_core.specs.Validity.{IsValid}

-- a dossier of automatic days: every wish is without boarding, ranked, and waits at first; no
-- programme has a call limit; and nobody answers
pub record IsAllAutomatic (d : DossierRows) : Type 0 where
  pub schools : All (λ w. w.school ≡ None) d.wishes
  pub ranked : All (λ w. 0 < w.preference) d.wishes
  pub waiting : All (λ status. IsTrue (is_waiting_status status)) d.statuses
  pub no_limits : All (λ p. p.limit ≡ 0) d.programmes
  pub no_answers : d.answers ≡ []

-- two wishes of one candidate are not both live
abbrev pub NotBothLive : Wish × Mark → Wish × Mark → Type 0
NotBothLive e f = e.0.candidate ≡ f.0.candidate → IsTrue (is_live e.1) → is_live f.1 ≡ false

-- a matching of the dossier, as a state: each candidate has at most one live wish, no programme
-- more candidates than seats, and no wish was given up by its candidate
pub record IsMatching (d : DossierRows) (m : State) : Type 0 where
  pub dossier : m.dossier ≡ d
  pub marked : length m.marks ≡ length d.wishes
  pub one_each : AllPairs NotBothLive (entries m)
  pub room : (p : ℕ) → p < length d.programmes → length (seat_holders m p) ≤ seats_of d p
  pub given_up : All (λ x. IsTrue (is_live x || is_missed x.status)) m.marks

-- it is stable where no wish blocks it
pub record IsStable (orders : List CallOrder) (d : DossierRows) (m : State) : Type 0 where
  pub matching : IsMatching d m
  pub stable : blocking m orders ≡ []

-- the candidate is live by a wish that they rank at most as n
abbrev pub has_as_good : State → ℕ → ℕ → Bool
has_as_good s c n =
    list_any (λ (w, x). is_live x && (w.candidate == c) && nat_le w.preference n) (entries s)

-- after automatic days, whatever a candidate has, in every stable matching they have one that they
-- rank no worse
abbrev pub StableMatchingsAreNoWorse : Type 0
StableMatchingsAreNoWorse =
    (orders : List CallOrder) (d : DossierRows) (days : List DayRecord) (evening m : State)
    (c n : ℕ)
    → IsValid d
    → AreCallOrders d.groups orders
    → IsAllAutomatic d
    → Days None orders 1 (first_evening d) days evening
    → IsStable orders d m
    → IsTrue (has_as_good evening c n)
    → IsTrue (has_as_good m c n)

-- and the evening is such a matching itself
abbrev pub AutomaticEveningsAreStable : Type 0
AutomaticEveningsAreStable =
    (orders : List CallOrder) (d : DossierRows) (days : List DayRecord) (evening : State)
    → IsValid d
    → AreCallOrders d.groups orders
    → IsAllAutomatic d
    → 0 < length days
    → Days None orders 1 (first_evening d) days evening
    → IsStable orders d evening

-- Why nobody has a blocking wish after days that are answered automatically alone.
use Rattle.std.specs.Prelude.{◌≡◌, ◌≤◌, ◌<◌, ℕ, Bool, true, false, List, [], All, length, Option, None, IfSome, IsTrue}
use Rattle.admit_core.specs.declared.dossier.Wish.{Wish}
use Rattle.admit_core.specs.declared.ranking.CallOrder.{CallOrder}
use Rattle.admit_core.specs.declared.records.DayRecord.{DayRecord}
use Rattle.admit_core.specs.declared.records.PassEnd.{PassEnd}
use Rattle.admit_core.specs.declared.records.Terms.{Terms}
use Rattle.admit_core.specs.declared.state.Mark.{Mark}
use Rattle.admit_core.specs.declared.state.Stamp.{Stamp}
use Rattle.admit_core.specs.declared.state.Status.{Status}
use Rattle.admit_core.specs.declared.state.Status.TheVariants.{AutoRefused, AutoWithdrawn}
use Rattle.admit_core.specs.Blocking.{behind, blocking, has_better}
use Rattle.admit_core.specs.CallOrder.{AreCallOrders}
use Rattle.admit_core.specs.Days.{Days, IsDay, Passes, answers_of, closing, first_evening}
use Rattle.admit_core.specs.DossierRows.{DossierRows}
use Rattle.admit_core.specs.Lapses.{AreTermsFor, is_offered}
use Rattle.admit_core.specs.State.{State, entries, holds_seat, is_waiting, is_waiting_status}
use Rattle.admit_core.specs.Validity.{IsValid}

-- each wish is without boarding, and each candidate ranks theirs
pub record IsRankedPlainly (d : DossierRows) : Type 0 where
  pub schools : All (λ w. w.school ≡ None) d.wishes
  pub preferences : All (λ w. 0 < w.preference) d.wishes

-- a wish that was given up for its candidate
abbrev pub is_given_up : Status → Bool
is_given_up AutoRefused = true
is_given_up AutoWithdrawn = true
is_given_up _ = false

-- nobody who is live in a programme stands in its call order behind a candidate with a waiting wish
-- there
abbrev pub NobodyBehind : List CallOrder → State → Wish × Mark → Type 0
NobodyBehind orders s (w, m) =
    IsTrue (is_waiting m) → All (λ c. holds_seat s c w.programme ≡ false) (behind s orders w)

-- where a wish was given up for its candidate, they hold a better one
abbrev pub HoldsBetter : State → Wish × Mark → Type 0
HoldsBetter s (w, m) = IsTrue (is_given_up m.status) → IsTrue (has_better s w)

-- a wish that is live is accepted
abbrev pub IsSettled : Mark → Type 0
IsSettled m = is_offered m.status ≡ false

-- what each pass with its automatic answers keeps
pub record IsFair (orders : List CallOrder) (s : State) : Type 0 where
  pub behind : All (NobodyBehind orders s) (entries s)
  pub better : All (HoldsBetter s) (entries s)
  pub settled : All IsSettled s.marks

-- where every wish waits, a state is fair
abbrev pub WaitingIsFair : Type 0
WaitingIsFair = (orders : List CallOrder) (s : State)
    → All (λ m. IsTrue (is_waiting m)) s.marks → IsFair orders s

-- a pass with its automatic answers leaves a fair state fair, whatever the bars
abbrev pub PassesKeepFair : Type 0
PassesKeepFair =
    (orders : List CallOrder) (s : State) (bars : List ℕ) (stamp : Stamp)
    → IsValid s.dossier
    → AreCallOrders s.dossier.groups orders
    → IsRankedPlainly s.dossier
    → length s.marks ≡ length s.dossier.wishes
    → IsFair orders s
    → IsFair orders (closing s orders bars stamp)

-- nobody has a blocking wish in an evening, which is fair again
pub record IsFairEvening (orders : List CallOrder) (evening : State) : Type 0 where
  pub fair : IsFair orders evening
  pub none_blocks : blocking evening orders ≡ []

-- so it is with the passes of a day from a fair opening, under whatever ceilings
abbrev pub DaysEndFair : Type 0
DaysEndFair =
    (orders : List CallOrder) (ceilings : List ℕ) (day k : ℕ) (opening : State)
    (passes : List PassEnd) (evening : State)
    → IsValid opening.dossier
    → AreCallOrders opening.dossier.groups orders
    → IsRankedPlainly opening.dossier
    → length opening.marks ≡ length opening.dossier.wishes
    → IsFair orders opening
    → Passes orders ceilings day k opening passes evening
    → IsFairEvening orders evening

-- and a day from a fair evening, on which nobody answers
abbrev pub QuietDaysEndFair : Type 0
QuietDaysEndFair =
    (terms : Option Terms) (orders : List CallOrder) (ceilings : List ℕ) (old : State)
    (day : DayRecord) (evening : State)
    → IsValid old.dossier
    → AreCallOrders old.dossier.groups orders
    → AreTermsFor old.dossier terms
    → IsRankedPlainly old.dossier
    → length old.marks ≡ length old.dossier.wishes
    → answers_of old.dossier day.day ≡ []
    → IsFair orders old
    → IsDay terms orders ceilings old day evening
    → IsFairEvening orders evening

-- the wishes of a dossier that all wait as it comes in, without boarding and ranked
pub record IsAutomatic (d : DossierRows) (terms : Option Terms) : Type 0 where
  pub plain : IsRankedPlainly d
  pub terms_fit : AreTermsFor d terms
  pub waiting : All (λ st. IsTrue (is_waiting_status st)) d.statuses

-- the evening of such a dossier after its first day, under any ceilings, on which nobody answers
pub record IsFirstEvening (orders : List CallOrder) (evening : State) : Type 0 where
  pub terms : Option Terms
  pub ceilings : List ℕ
  pub day : DayRecord
  pub automatic : IsAutomatic evening.dossier terms
  pub first : day.day ≡ 1
  pub quiet : answers_of evening.dossier 1 ≡ []
  pub is_day : IsDay terms orders ceilings (first_evening evening.dossier) day evening

-- the evening after several days, on none of which anybody answers
pub record IsLaterEvening (orders : List CallOrder) (evening : State) : Type 0 where
  pub terms : Option Terms
  pub days : List DayRecord
  pub automatic : IsAutomatic evening.dossier terms
  pub some : 0 < length days
  pub quiet : (day : ℕ) → day ≤ length days → answers_of evening.dossier day ≡ []
  pub are_days : Days terms orders 1 (first_evening evening.dossier) days evening

-- nobody has a blocking wish in either of them
abbrev pub FirstEveningsBlockNone : Type 0
FirstEveningsBlockNone =
    (orders : List CallOrder) (evening : State)
    → IsValid evening.dossier
    → AreCallOrders evening.dossier.groups orders
    → IsFirstEvening orders evening
    → blocking evening orders ≡ []

abbrev pub LaterEveningsBlockNone : Type 0
LaterEveningsBlockNone =
    (orders : List CallOrder) (evening : State)
    → IsValid evening.dossier
    → AreCallOrders evening.dossier.groups orders
    → IsLaterEvening orders evening
    → blocking evening orders ≡ []

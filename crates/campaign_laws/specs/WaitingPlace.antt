-- A candidate's place among those who wait.
use Rattle.std.specs.Prelude.{◌≤◌, ◌∷◌, ◌&&◌, ◌==◌, ℕ, AllPairs, Bool, List, Option, count_by}
use Rattle.std.specs.List.{list_any}
use Rattle.admit_core.specs.declared.dossier.Wish.{Wish}
use Rattle.admit_core.specs.declared.ranking.CallOrder.{CallOrder}
use Rattle.admit_core.specs.declared.records.DayRecord.{DayRecord}
use Rattle.admit_core.specs.declared.records.Terms.{Terms}
use Rattle.admit_core.specs.Days.{Days}
use Rattle.admit_core.specs.Lapses.{AreTermsFor}
use Rattle.admit_core.specs.Proposals.{before}
use Rattle.admit_core.specs.State.{State, entries, is_waiting}
use Rattle.campaign_laws.specs.Moments.{moments}

-- a candidate waits for a programme where one of their wishes of it waits
abbrev pub waits_for : State → ℕ → ℕ → Bool
waits_for s p c =
    list_any (λ (w, m). is_waiting m && (w.candidate == c) && (w.programme == p)) (entries s)

-- how many of those who stand before the wish's candidate in the call order wait for its programme,
-- be they live there or not
abbrev pub waiting_before : State → List CallOrder → Wish → ℕ
waiting_before s orders w = count_by (waits_for s w.programme) (before s orders w)

-- there are never more of them later
abbrev pub NoMoreWaitBefore : List CallOrder → State → State → Type 0
NoMoreWaitBefore orders earlier later =
    (w : Wish) → waiting_before later orders w ≤ waiting_before earlier orders w

abbrev pub WaitingPlaceNeverWorsens : Type 0
WaitingPlaceNeverWorsens =
    (terms : Option Terms) (orders : List CallOrder) (d : ℕ) (old : State) (days : List DayRecord)
    (new : State)
    → AreTermsFor old.dossier terms
    → Days terms orders d old days new
    → AllPairs (NoMoreWaitBefore orders) (old ∷ moments terms orders old days)

-- A day on which nothing happens.
use Rattle.std.specs.Prelude.{◌≡◌, ◌+◌, ◌∷◌, ℕ, All, List, Option, [], length}
use Rattle.admit_core.specs.declared.ranking.CallOrder.{CallOrder}
use Rattle.admit_core.specs.declared.records.DayRecord.{DayRecord}
use Rattle.admit_core.specs.declared.records.Terms.{Terms}
use Rattle.admit_core.specs.CallOrder.{AreCallOrders}
use Rattle.admit_core.specs.Days.{Days, answers_of, ceilings_of}
use Rattle.admit_core.specs.Lapses.{AreTermsFor}
use Rattle.admit_core.specs.State.{State}
use Rattle.admit_core.specs.Validity.{IsValid}

-- such a day has one pass, which offers nothing, and leaves the evening before
pub record ChangesNothing (old : State) (day : DayRecord) (new : State) : Type 0 where
  pub one_pass : length day.passes ≡ 1
  pub no_offers : All (λ pass. pass.pass.offers ≡ []) day.passes
  pub same : new ≡ old

-- so the day after another, on which nobody answers, no offer lapses and no ceiling is new
abbrev pub QuietDaysChangeNothing : Type 0
QuietDaysChangeNothing =
    (terms : Option Terms) (orders : List CallOrder) (d : ℕ) (old : State) (day next : DayRecord)
    (evening new : State)
    → IsValid old.dossier
    → AreCallOrders old.dossier.groups orders
    → AreTermsFor old.dossier terms
    → length old.marks ≡ length old.dossier.wishes
    → Days terms orders d old (day ∷ []) evening
    → Days terms orders (d + 1) evening (next ∷ []) new
    → ceilings_of old.dossier (d + 1) ≡ ceilings_of old.dossier d
    → next.lapsed ≡ []
    → answers_of old.dossier (d + 1) ≡ []
    → ChangesNothing evening next new

-- The bars of a morning after a night in which nothing happens.
use Rattle.std.specs.Prelude.{◌≡◌, ◌+◌, ◌∷◌, ℕ, List, Option, [], length}
use Rattle.admit_core.specs.declared.ranking.CallOrder.{CallOrder}
use Rattle.admit_core.specs.declared.records.DayRecord.{DayRecord}
use Rattle.admit_core.specs.declared.records.PassEnd.{PassEnd}
use Rattle.admit_core.specs.declared.records.Terms.{Terms}
use Rattle.admit_core.specs.CallOrder.{AreCallOrders}
use Rattle.admit_core.specs.Days.{Days, answers_of, ceilings_of}
use Rattle.admit_core.specs.EveningLaws.{last_bars}
use Rattle.admit_core.specs.Falls.{IsAtMost}
use Rattle.admit_core.specs.Lapses.{AreTermsFor}
use Rattle.admit_core.specs.State.{State}
use Rattle.admit_core.specs.Validity.{IsValid}

-- the bars of the first pass of a day
abbrev pub first_bars : List PassEnd → List ℕ
first_bars [] = []
first_bars (pass ∷ rest) = pass.pass.bars

-- none of them is lower than that of the last pass of the day before, where nobody answers, no
-- offer lapses and no ceiling is lower
abbrev pub NoBarFallsOvernight : Type 0
NoBarFallsOvernight =
    (terms : Option Terms) (orders : List CallOrder) (d : ℕ) (old : State) (day next : DayRecord)
    (evening new : State)
    → IsValid old.dossier
    → AreCallOrders old.dossier.groups orders
    → AreTermsFor old.dossier terms
    → length old.marks ≡ length old.dossier.wishes
    → Days terms orders d old (day ∷ []) evening
    → Days terms orders (d + 1) evening (next ∷ []) new
    → IsAtMost (ceilings_of old.dossier d) (ceilings_of old.dossier (d + 1))
    → next.lapsed ≡ []
    → answers_of old.dossier (d + 1) ≡ []
    → IsAtMost (last_bars day.passes) (first_bars next.passes)

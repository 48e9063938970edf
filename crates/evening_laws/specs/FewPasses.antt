-- How many passes a day has.
use Rattle.std.specs.Prelude.{◌≤◌, ◌+◌, ℕ, Bool, List, Option, count_by, false, length, map, sum, true}
use Rattle.admit_core.specs.declared.ranking.CallOrder.{CallOrder}
use Rattle.admit_core.specs.declared.records.DayRecord.{DayRecord}
use Rattle.admit_core.specs.declared.records.PassEnd.{PassEnd}
use Rattle.admit_core.specs.declared.records.Terms.{Terms}
use Rattle.admit_core.specs.declared.state.Status.{Status}
use Rattle.admit_core.specs.declared.state.Status.TheVariants.{AutoRefused}
use Rattle.admit_core.specs.Days.{IsDay}
use Rattle.admit_core.specs.State.{State}

abbrev pub is_auto_refused : Status → Bool
is_auto_refused AutoRefused = true
is_auto_refused _ = false

-- how many wishes the automatic answers after a pass give up that were live
abbrev pub given_up : PassEnd → ℕ
given_up pass = count_by (λ c. is_auto_refused c.status) pass.autos

-- a day has at most one pass more than wishes that were given up so on it
abbrev pub PassesAreFew : Type 0
PassesAreFew =
    (terms : Option Terms) (orders : List CallOrder) (ceilings : List ℕ) (old : State)
    (day : DayRecord) (evening : State)
    → IsDay terms orders ceilings old day evening
    → length day.passes ≤ sum (map given_up day.passes) + 1

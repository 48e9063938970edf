-- What holds of every day.
use Rattle.std.specs.Prelude.{◌≡◌, ℕ, List, [], All, Option}
use Rattle.std.specs.List.{AllZip}
use Rattle.admit_core.specs.declared.ranking.CallOrder.{CallOrder}
use Rattle.admit_core.specs.declared.records.PassEnd.{PassEnd}
use Rattle.admit_core.specs.declared.records.DayRecord.{DayRecord}
use Rattle.admit_core.specs.declared.records.Terms.{Terms}
use Rattle.admit_core.specs.State.{State, entries}
use Rattle.admit_core.specs.Proposals.{proposed}
use Rattle.admit_core.specs.Falls.{IsGreatest}
use Rattle.admit_core.specs.Boarding.{boarding}
use Rattle.admit_core.specs.EveningLaws.{IsFilled, last_bars}
use Rattle.admit_core.specs.Days.{IsDay, morning}
use Rattle.desk_day.specs.DayPasses.{PassesKeepLaws}

-- two passes with the same bars, offers, automatic answers and freed numbers
pub record SameButFalls (one other : PassEnd) : Type 0 where
  pub bars : one.pass.bars ≡ other.pass.bars
  pub offers : one.pass.offers ≡ other.pass.offers
  pub autos : one.autos ≡ other.autos
  pub freed : one.freed ≡ other.freed

-- two days of one number with the same lapses, passes that differ in their falls alone, and the
-- same evening numbers
pub record SameDayButFalls (one other : DayRecord) : Type 0 where
  pub number : one.day ≡ other.day
  pub lapsed : one.lapsed ≡ other.lapsed
  pub passes : AllZip SameButFalls one.passes other.passes
  pub left : one.left ≡ other.left
  pub free : one.free ≡ other.free

-- whichever schools were picked, days of one number from one evening lead to one evening, and
-- differ in their falls alone
abbrev pub OnlyFallsDiffer : Type 0
OnlyFallsDiffer =
    (terms : Option Terms) (orders : List CallOrder) (ceilings : List ℕ) (old : State)
    (one other : DayRecord) (evening night : State)
    → one.day ≡ other.day
    → IsDay terms orders ceilings old one evening
    → IsDay terms orders ceilings old other night
    → (evening ≡ night) × SameDayButFalls one other

-- what holds of a day that came about. Each of its passes keeps the laws of passes. In its evening
-- a programme has seats left only where each waiting wish of it is barred under the bars of the
-- last pass, and under the evening's own greatest bars no wish is proposed; and every day of its
-- number from the same evening before is the same but for its falls
pub record KeepsLaws (terms : Option Terms) (orders : List CallOrder) (ceilings : List ℕ)
    (old : State) (day : DayRecord) (evening : State) : Type 0 where
  pub passes : PassesKeepLaws orders ceilings day.day 1 (morning terms day.day old) day.passes
  pub filled : All (IsFilled evening (last_bars day.passes)) (entries evening)
  pub closed : (bars : List ℕ) → IsGreatest (boarding evening orders ceilings) bars
      → proposed evening orders bars ≡ []
  pub only : (other : DayRecord) (night : State) → other.day ≡ day.day
      → IsDay terms orders ceilings old other night → (night ≡ evening) × SameDayButFalls other day

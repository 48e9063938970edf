-- The whole text of a run, its call orders, its days and its final state, tells all of them.
use Rattle.std.specs.Prelude.{◌≡◌, ℕ, ℤ, List, ◌++◌, All, flat_map, length, zip}
use Rattle.admit_core.specs.DossierRows.{DossierRows}
use Rattle.admit_core.specs.State.{State}
use Rattle.admit_core.specs.declared.ranking.CallOrder.{CallOrder}
use Rattle.admit_core.specs.declared.ranking.RankGroup.{RankGroup}
use Rattle.admit_core.specs.declared.records.DayRecord.{DayRecord}
use Rattle.report.specs.DayText.{dated_day_text, day_text}
use Rattle.report.specs.FinalText.{final_dated_text, final_text}
use Rattle.report.specs.OrderText.{order_text}
use Rattle.report_laws.specs.Days.{IsDated, IsUndated}
use Rattle.report_laws.specs.Told.{HasNames, HaveSameStatuses, IsSmall}

-- the lines of all groups, in file order
abbrev pub orders_text : List RankGroup → List CallOrder → List ℕ
orders_text groups orders = flat_map (λ x. order_text x.0.id x.1) (zip groups orders)

-- a call order for each group, of candidates of 32 bits
pub record AreToldOrders (d : DossierRows) (orders : List CallOrder) : Type 0 where
  pub one_each : length orders ≡ length d.groups
  pub candidates : All (λ order. All IsSmall order.list) orders

-- the candidates in call order, and the rule of each position
abbrev pub OrdersAreTold : Type 0
OrdersAreTold =
    (d : DossierRows) (orders others : List CallOrder)
    → HasNames d
    → AreToldOrders d orders
    → AreToldOrders d others
    → (orders_text d.groups orders ≡ orders_text d.groups others)
    → (orders ≡ others)

-- what a run leaves: its call orders, its days, and its last evening
pub record Run : Type 0 where
  pub orders : List CallOrder
  pub days : List DayRecord
  pub evening : State

-- what the mode `replay` writes where offers have no deadline
abbrev pub run_text : DossierRows → Run → List ℕ
run_text d run =
    orders_text d.groups run.orders ++ flat_map (day_text d) run.days ++ final_text run.evening

-- a run over the dossier
pub record IsRunOf (d : DossierRows) (run : Run) : Type 0 where
  pub told_orders : AreToldOrders d run.orders
  pub told_days : All (IsUndated d) run.days
  pub same_dossier : run.evening.dossier ≡ d

-- two runs with the same text have the same orders, days and final statuses
abbrev pub RunsAreTold : Type 0
RunsAreTold =
    (d : DossierRows) (one other : Run)
    → HasNames d
    → IsRunOf d one
    → IsRunOf d other
    → (run_text d one ≡ run_text d other)
    → (one.orders ≡ other.orders) × (one.days ≡ other.days)
    × HaveSameStatuses d one.evening other.evening

-- ---- with deadlines
-- what the mode `replay` writes there: day 1 has a date, an offer stands for a term, and each wish
-- has the day of the offer that it came in with
abbrev pub dated_run_text : DossierRows → ℤ → ℕ → List ℤ → Run → List ℕ
dated_run_text d start term before run =
    orders_text d.groups run.orders ++ flat_map (λ x. dated_day_text d x start term) run.days
    ++ final_dated_text run.evening start before

pub record IsDatedRunOf (d : DossierRows) (start : ℤ) (term : ℕ) (run : Run) : Type 0 where
  pub told_orders : AreToldOrders d run.orders
  pub told_days : All (IsDated d start term) run.days
  pub same_dossier : run.evening.dossier ≡ d

-- two such runs with the same text have the same orders, days, lapses too, and final statuses
abbrev pub DatedRunsAreTold : Type 0
DatedRunsAreTold =
    (d : DossierRows) (start : ℤ) (term : ℕ) (before : List ℤ) (one other : Run)
    → HasNames d
    → IsDatedRunOf d start term one
    → IsDatedRunOf d start term other
    → (dated_run_text d start term before one ≡ dated_run_text d start term before other)
    → (one.orders ≡ other.orders) × (one.days ≡ other.days)
    × HaveSameStatuses d one.evening other.evening

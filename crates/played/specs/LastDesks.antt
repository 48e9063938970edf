-- The desk that days leave, where one was run, and by which call orders they were run.
use Rattle.std.specs.Prelude.{◌≡◌, ℕ, Bool, true, false, List, Option, None, Some, Result, Ok, Err, IfOk, IsOk, nat_lt}
use Rattle.admit_core.specs.DossierRows.{DossierRows}
use Rattle.admit_core.specs.declared.ranking.CallOrder.{CallOrder}
use Rattle.admit_core.specs.declared.records.DayRecord.{DayRecord}
use Rattle.admit_core.specs.declared.refusal.Refusal.{Refusal}
use Rattle.desk_day.specs.DeskStates.{DeskStates}
use Rattle.played.specs.Lent.{Lent, Untold}
use Rattle.played.specs.PlayedDays.{Played, first_desk}

-- a desk, and the call orders by which its days are run
pub record DeskBy : Type 0 where
  pub desk : DeskStates
  pub orders : List CallOrder

-- the same after days, and whether the desk was begun
pub record DeskLeft : Type 0 where
  pub desk : DeskStates
  pub orders : List CallOrder
  pub is_begun : Bool

-- the desk that was begun, or else the first one of the dossier
abbrev pub desk_left : DossierRows → List CallOrder → Option DeskBy → DeskLeft
desk_left d orders None = record { desk = first_desk d; orders = orders; is_begun = false }
desk_left d orders (Some along) =
    record { desk = along.desk; orders = along.orders; is_begun = true }

-- days ended with a desk, or were cut short
abbrev pub desk_in : Result DeskLeft Refusal → Result DeskStates Refusal
desk_in (Ok last) = Ok last.desk
desk_in (Err refusal) = Err refusal

-- the desk that so many days leave: it goes by these call orders, and is begun where one was run
pub record IsLeftBy (orders : List CallOrder) (number : ℕ) (last : DeskLeft) : Type 0 where
  pub by_orders : last.orders ≡ orders
  pub begun : last.is_begun ≡ nat_lt 0 number

-- so many days were played by these call orders, and this is how they ended
pub record EndsBy (orders : List CallOrder) (number : ℕ) (IsPlayed : Played → Type 0)
    (days : List DayRecord) (end : Result DeskLeft Refusal) : Type 0 where
  pub plays : IsPlayed (record { orders = orders; days = days; end = desk_in end })
  pub left : IfOk end (IsLeftBy orders number)

-- a run for which no day is asked always has an outcome, and asks no picker
pub record IsUnasked {X E : Type 0} (before after : Lent) (result : Result X E) : Type 0 where
  pub always : IsOk result
  pub untold : Untold before after

-- What does not change during a run.
use Rattle.std.specs.Prelude.{List}
use Rattle.admit_core.specs.CallOrder.{AreCallOrders}
use Rattle.admit_core.specs.declared.ranking.CallOrder.{CallOrder}
use Rattle.admit_core.specs.DossierRows.{DossierRows}
use Rattle.linked_demand.specs.declared.lineup.Lineup.{Lineup}
use Rattle.linked_demand.specs.Lineups.{IsLineupOf}

-- what a roster is seen as
pub record Setting : Type 0 where
  pub dossier : DossierRows
  pub orders : List CallOrder

-- the orders are those of the dossier, and the lineup follows from both
pub record IsRosterOf (d : DossierRows) (orders : List CallOrder) (lineup : Lineup) : Type 0 where
  pub orders_are : AreCallOrders d.groups orders
  pub lineup_is : IsLineupOf d orders lineup

-- What the questions of beds are asked of.
use Rattle.std.specs.Prelude.{List}
use Rattle.admit_core.specs.State.{State}
use Rattle.admit_core.specs.declared.ranking.CallOrder.{CallOrder}

-- what questions are seen as
pub record Questions : Type 0 where
  pub state : State
  pub orders : List CallOrder

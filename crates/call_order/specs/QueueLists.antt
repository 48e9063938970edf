-- What is seen of the queues, and what is taken out of them.
use Rattle.std.specs.Prelude.{◌≡◌, ℕ, ◌+◌, List, [], ◌++◌, length}
use Rattle.admit_core.specs.declared.ranking.CallOrder.{CallOrder}
use Rattle.admit_core.specs.declared.ranking.Ranked.{Ranked}

-- those who remain, and the ids of those who were taken, in the order of their going
pub record QueueLists : Type 0 where
  pub remaining : List Ranked
  pub taken : List ℕ

-- all who remained were taken, in the order of this list, with one step counted for each
pub record TakesAll (before after : QueueLists) (count count_after : ℕ)
    (order : CallOrder) : Type 0 where
  pub emptied : after.remaining ≡ []
  pub taken : after.taken ≡ before.taken ++ order.list
  pub steps : count_after ≡ count + length before.remaining

-- nobody was taken, and no step was counted
pub record TakesNobody (before after : QueueLists) (count count_after : ℕ) : Type 0 where
  pub unchanged : after ≡ before
  pub no_step : count_after ≡ count

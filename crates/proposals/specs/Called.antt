-- Call orders that call every candidate who has a wish.
use Rattle.std.specs.Prelude.{◌≡◌, ℕ, ◌<◌, true, List, length}
use Rattle.day_state.specs.Kept.{wish_in}
use Rattle.admit_core.specs.declared.ranking.CallOrder.{CallOrder}
use Rattle.admit_core.specs.DossierRows.{DossierRows}
use Rattle.admit_core.specs.Lists.{is_among}
use Rattle.admit_core.specs.Proposals.{order_of}

-- one call order for each group, and each wish's candidate is called in that of its programme
pub record AreCalled (d : DossierRows) (orders : List CallOrder) : Type 0 where
  pub as_many : length orders ≡ length d.groups
  pub each :
      (k : ℕ) → k < length d.wishes
      → is_among (wish_in d.wishes k).candidate (order_of d orders (wish_in d.wishes k).programme)
      ≡ true

-- The mode `order`: the lines of the call orders.
use Rattle.std.specs.Prelude.{ℕ, List, flat_map, zip}
use Rattle.admit_core.specs.declared.ranking.CallOrder.{CallOrder}
use Rattle.admit_core.specs.declared.ranking.RankGroup.{RankGroup}
use Rattle.report.specs.OrderText.{order_text}

-- the lines of a group
abbrev pub group_text : RankGroup × CallOrder → List ℕ
group_text (group, order) = order_text group.id order

-- the lines of all groups, in file order
abbrev pub orders_text : List RankGroup → List CallOrder → List ℕ
orders_text groups orders = flat_map group_text (zip groups orders)

-- Why rows are no market.
use Rattle.std.specs.Prelude.{◌≡◌, ◌≢◌, [], length, Option, Some, None}
use Rattle.markets.specs.declared.fault.MarketFault.{MarketFault}
use Rattle.markets.specs.declared.fault.MarketFault.TheVariants.{BadCount, BadList, BadOrder, OutOfMemory}
use Rattle.markets.specs.Markets.{MarketRows, IsMarket, first_bad_list, first_bad_order}

-- the fault of rows: the first that stands of the counts, the lists and the orders; memory runs out
-- only where none stands, and there is a list or an order
abbrev pub IsFaultOf : MarketRows → MarketFault → Type 0
IsFaultOf m BadCount = length m.seats ≢ length m.orders
IsFaultOf m (BadList x) = (length m.seats ≡ length m.orders) × (first_bad_list m ≡ Some x)
IsFaultOf m (BadOrder p) =
    (length m.seats ≡ length m.orders) × (first_bad_list m ≡ None) × (first_bad_order m ≡ Some p)
IsFaultOf m OutOfMemory = IsMarket m × (m.lists ≡ [] → m.orders ≡ [] → ⊥)

-- the fault of rows, or none of a market
abbrev pub IsFaultOrNone : MarketRows → Option MarketFault → Type 0
IsFaultOrNone m None = IsMarket m
IsFaultOrNone m (Some fault) = IsFaultOf m fault
